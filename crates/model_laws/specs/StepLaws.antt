-- Every call leaves a sound state, in which the root init lives.
use Rattle.std.specs.Prelude.{◌≡◌, ℕ, ◌+◌, ◌<◌, true, false, List, length, None, Some}
use Rattle.pid_types.specs.declared.call.Call.{Call}
use Rattle.pid_types.specs.declared.plain.Row.{Row}
use Rattle.pid_types.specs.Settings.{HasGoodPidMax}
use Rattle.pid_types.specs.State.{State, root_state}
use Rattle.pid_types.specs.Names.{is_live, row_at}
use Rattle.pid_types.specs.Fork.{is_gone}
use Rattle.pid_types.specs.Step.{step, makes_id}
use Rattle.pid_types.specs.Replay.{state_after}
use Rattle.pid_types.specs.declared.call.ThreadCall.{ThreadCall}
use Rattle.pid_types.specs.ThreadStep.{AnyCall, thread_step, state_after_any}
use Rattle.pid_types.specs.Sound.{IsSound, IsBelow}

-- the state that a table begins with is sound, and its ids are below the first stamp
abbrev pub RootStateIsSound : Type 0
RootStateIsSound =
    (pid_max first : ℕ) → HasGoodPidMax pid_max → 0 < first → IsSound (root_state pid_max) × IsBelow first (root_state pid_max)

-- the new state is sound, and each stamp that is above all ids of the old one is above all of its own
abbrev pub StaysSound : State → State → Type 0
StaysSound old new = IsSound new × ((stamp : ℕ) → IsBelow stamp old → IsBelow stamp new)

-- every call leaves a sound state, whose ids are below the next stamp
abbrev pub StepKeepsSoundness : Type 0
StepKeepsSoundness =
    (state : State) (stamp : ℕ) (call : Call) → IsSound state → IsBelow stamp state
    → IsSound (step state stamp call).state × IsBelow (stamp + 1) (step state stamp call).state

-- a call that makes nothing with an id leaves all ids below its stamp
abbrev pub PlainCallsMakeNoId : Type 0
PlainCallsMakeNoId =
    (state : State) (stamp : ℕ) (call : Call) → makes_id call ≡ false → IsSound state → IsBelow stamp state
    → IsBelow stamp (step state stamp call).state

-- every run of calls leaves a sound state
abbrev pub RunsKeepSoundness : Type 0
RunsKeepSoundness =
    (opening : State) (first : ℕ) (calls : List Call) → IsSound opening → IsBelow first opening
    → IsSound (state_after opening first calls) × IsBelow (first + length calls) (state_after opening first calls)

-- so does every call about threads, which makes nothing with an id
abbrev pub ThreadCallsKeepSoundness : Type 0
ThreadCallsKeepSoundness = (state : State) (call : ThreadCall) → IsSound state → StaysSound state (thread_step state call).state

-- and every run of calls of both kinds
abbrev pub AnyRunsKeepSoundness : Type 0
AnyRunsKeepSoundness =
    (opening : State) (first : ℕ) (calls : List AnyCall) → IsSound opening → IsBelow first opening
    → IsSound (state_after_any opening first calls) × IsBelow (first + length calls) (state_after_any opening first calls)

-- no call changes the bound of all numbers, and so no run does
abbrev pub BoundStays : Type 0
BoundStays = (opening : State) (first : ℕ) (calls : List Call) → (state_after opening first calls).pid_max ≡ opening.pid_max

-- no call about threads changes it either
abbrev pub ThreadsKeepBound : Type 0
ThreadsKeepBound = (state : State) (call : ThreadCall) → (thread_step state call).state.pid_max ≡ state.pid_max

-- in a sound state the root namespace is there and has not fallen
abbrev pub RootNeverFalls : Type 0
RootNeverFalls = (state : State) → IsSound state → is_gone state 0 ≡ false

-- the task with the root number 1 is the root init: it lives in the root namespace, and has no parent
pub record IsRootInit (state : State) (init : Row) : Type 0 where
  pub first : row_at state.rows 1 ≡ Some init
  pub lives : is_live init ≡ true
  pub here : init.name.space ≡ 0
  pub parentless : init.parent ≡ None

-- in a sound state the root init lives, so that every chain of parents, which ends at number 1, ends at a live task
abbrev pub RootInitLives : Type 0
RootInitLives = (state : State) → IsSound state → (init : Row) × IsRootInit state init
