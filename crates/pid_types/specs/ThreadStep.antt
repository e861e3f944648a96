-- One call about threads, as one step from state to state. The table does not take these calls yet.
use Rattle.std.specs.Prelude.{ℕ, ◌+◌, List, [], ◌∷◌, Bool, true, false}
use Rattle.pid_types.specs.declared.call.Call.{Call}
use Rattle.pid_types.specs.declared.reply.Reply.{Reply}
use Rattle.pid_types.specs.State.{State}
use Rattle.pid_types.specs.Outcome.{Outcome, answered}
use Rattle.pid_types.specs.Clone.{thread}
use Rattle.pid_types.specs.Leave.{leave}
use Rattle.pid_types.specs.Queries.{get_tid, get_tgid, next_thread}
use Rattle.pid_types.specs.Step.{step}
use Rattle.pid_types.specs.declared.call.ThreadCall.{ThreadCall}
use Rattle.pid_types.specs.declared.call.ThreadCall.TheVariants.{NewThread, Leave, GetTid, GetTgid, NextThread}

-- what the call comes to
unfoldable pub thread_step : State → ThreadCall → Outcome
thread_step state (NewThread caller) = thread state caller
thread_step state (Leave caller status) = leave state caller status
thread_step state (GetTid caller) = answered state (get_tid state caller)
thread_step state (GetTgid caller target) = answered state (get_tgid state caller target)
thread_step state (NextThread caller from) = answered state (next_thread state caller from)

-- whether the call may need memory for what it makes
abbrev pub thread_may_grow : ThreadCall → Bool
thread_may_grow (NewThread caller) = true
thread_may_grow (Leave caller status) = true
thread_may_grow _ = false

-- a call of the table, or one about threads
pub data AnyCall : Type 0 where
  of_table : Call → AnyCall
  of_threads : ThreadCall → AnyCall

-- what it comes to at the stamp
abbrev pub any_step : State → ℕ → AnyCall → Outcome
any_step state stamp (of_table call) = step state stamp call
any_step state stamp (of_threads call) = thread_step state call

-- the state after calls of both kinds, the first at the stamp
abbrev pub state_after_any : State → ℕ → List AnyCall → State
state_after_any state stamp [] = state
state_after_any state stamp (call ∷ calls) = state_after_any (any_step state stamp call).state (stamp + 1) calls

-- and their replies
abbrev pub replies_to_any : State → ℕ → List AnyCall → List Reply
replies_to_any state stamp [] = []
replies_to_any state stamp (call ∷ calls) =
    (any_step state stamp call).reply ∷ replies_to_any (any_step state stamp call).state (stamp + 1) calls
