-- Who calls and whom a number names, and how the last thread of a process leaves.
use Rattle.std.specs.Prelude.{◌≡◌, ℕ, Some}
use Rattle.pid_types.specs.declared.call.Call.TheVariants.{Exit}
use Rattle.pid_types.specs.declared.plain.Row.{Row}
use Rattle.pid_types.specs.State.{State}
use Rattle.pid_types.specs.Threads.{running, caller_of}
use Rattle.pid_types.specs.Sound.{IsSound}
use Rattle.pid_types.specs.Step.{step}
use Rattle.pid_types.specs.declared.call.ThreadCall.TheVariants.{Leave}
use Rattle.pid_types.specs.ThreadStep.{thread_step}
use Rattle.model_laws.specs.Refusals.{IsCallingProcess, IsTaskTo}

-- in a sound state one process calls by the root number
abbrev pub OneCaller : Type 0
OneCaller = (state : State) (n : ℕ) (a b : Row) → IsSound state → IsCallingProcess state n a → IsCallingProcess state n b → a ≡ b

-- and a number of the caller's namespace names one process
abbrev pub OneIsNamed : Type 0
OneIsNamed =
    (state : State) (caller : Row) (n : ℕ) (a b : Row) → IsSound state → IsTaskTo state caller n a → IsTaskTo state caller n b → a ≡ b

-- the last thread that leaves ends its process as an exit does
abbrev pub LastLeavingEnds : Type 0
LastLeavingEnds =
    (state : State) (stamp n status : ℕ) (caller : Row) → caller_of state n ≡ Some caller → running state caller ≡ 1
    → thread_step state (Leave n status) ≡ step state stamp (Exit n status)
