-- No number is handed out twice.
use Rattle.std.specs.Prelude.{◌≡◌, ℕ, ◌+◌, ◌<◌, ◌≤◌, List, length, take, Some, slice_get}
use Rattle.pid_types.specs.declared.plain.Name.{Name}
use Rattle.pid_types.specs.declared.plain.Row.{Row}
use Rattle.pid_types.specs.declared.entry.Entry.{Entry}
use Rattle.pid_types.specs.declared.reply.Reply.TheVariants.{Forked}
use Rattle.pid_types.specs.declared.plain.Thread.{Thread}
use Rattle.pid_types.specs.State.{State}
use Rattle.pid_types.specs.Names.{number, in_use, row_at}
use Rattle.pid_types.specs.Threads.{thread_at}
use Rattle.pid_types.specs.declared.call.ThreadCall.TheVariants.{NewThread}
use Rattle.pid_types.specs.ThreadStep.{thread_step}
use Rattle.pid_types.specs.Replay.{state_after, calls_of, Replays}
use Rattle.pid_types.specs.Sound.{IsSound, IsBelow}
use Rattle.pid_types.specs.Membership.{IsIn}

-- the state after the first k entries
abbrev pub state_at : State → ℕ → List Entry → ℕ → State
state_at opening first entries k = state_after opening first (calls_of (take k entries))

-- the name is in use as process, as group, as session or as thread
abbrev pub IsInUse : Name → State → Type 0
IsInUse name state = IsIn name (in_use state)

-- two names have one number in one namespace
abbrev pub ShareNumber : State → Name → Name → Type 0
ShareNumber state a b = (s : ℕ) × (n : ℕ) × (number state.spaces a s ≡ Some n) × (number state.spaces b s ≡ Some n)

-- while a name is in use, from the i-th state to the j-th, no fork makes a row that has one of its numbers in the same namespace
abbrev pub ReusesNoNumber : State → ℕ → List Entry → Type 0
ReusesNoNumber opening first entries =
    (i j : ℕ) → j ≤ length entries → (name : Name) → ((m : ℕ) → i ≤ m → m ≤ j → IsInUse name (state_at opening first entries m))
    → (k : ℕ) (e : Entry) (child root : ℕ) (row : Row) → i ≤ k → k < j
    → slice_get entries k ≡ Some e → e.reply ≡ Forked child root → row_at (state_at opening first entries (k + 1)).rows root ≡ Some row
    → ShareNumber (state_at opening first entries (k + 1)) name row.name → ⊥

-- so it is in every history that replays from a sound opening
abbrev pub NoReuse : Type 0
NoReuse =
    (opening : State) (first : ℕ) (entries : List Entry) → IsSound opening → IsBelow first opening → Replays opening first entries
    → ReusesNoNumber opening first entries

-- in a sound state a new thread, which is found by its root number, shares no number with a name that was in use
abbrev pub ThreadReusesNoNumber : Type 0
ThreadReusesNoNumber =
    (state : State) (n thread root : ℕ) → IsSound state → (thread_step state (NewThread n)).reply ≡ Forked thread root
    → let after = (thread_step state (NewThread n)).state in
    (t : Thread) × (thread_at after root ≡ Some t) × ((name : Name) → IsInUse name state → ShareNumber after name t.name → ⊥)
