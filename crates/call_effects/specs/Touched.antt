-- Whom a call may touch, and what may end with that, as they are before it.
use Rattle.std.specs.Prelude.{◌≡◌, ◌+◌, ℕ, Bool, true, false, List, length, map, Some, IsSome}
use Rattle.pid_types.specs.declared.call.Call.{Call}
use Rattle.pid_types.specs.declared.call.Call.TheVariants.{Exit, Wait, SetPgid, SetSid}
use Rattle.pid_types.specs.declared.call.Kind.TheVariants.{Group, Session}
use Rattle.pid_types.specs.declared.plain.Row.{Row}
use Rattle.pid_types.specs.declared.plain.Space.{Space}
use Rattle.pid_types.specs.Membership.{IsIn}
use Rattle.pid_types.specs.Names.{root_number, space_at}
use Rattle.pid_types.specs.Sound.{IsRising}
use Rattle.pid_types.specs.State.{State}
use Rattle.translate.specs.Relations.{relations_of, relations_at}
use Rattle.call_effects.specs.declared.spaces.WatchedSpace.{WatchedSpace}
use Rattle.call_effects.specs.declared.tasks.Watched.{Watched}
use Rattle.call_effects.specs.Effects.{has_members_as, is_space, takes_tasks}

-- whether the call may touch a task's life, its parent, its group or its session
abbrev pub is_touching : Call → Bool
is_touching (Exit n status) = true
is_touching (Wait n which) = true
is_touching (SetPgid n pid pgid) = true
is_touching (SetSid n) = true
is_touching _ = false

-- the root numbers of tasks, in rising order; every other task has the relations of before
pub record Touches (old new : State) (numbers : List ℕ) : Type 0 where
  pub rising : IsRising numbers
  pub there : (n : ℕ) → IsIn n numbers → IsSome (relations_at old.rows n)
  pub rest : (row : Row) → IsIn row old.rows → (IsIn (root_number row.name) numbers → ⊥)
      → relations_at new.rows (root_number row.name) ≡ Some (relations_of row)

-- a namespace that is there before and behind has its parent of before, and has fallen where it had
abbrev pub KeepsParents : State → State → Type 0
KeepsParents old new =
    (id : ℕ) (s t : Space) → space_at old.spaces id ≡ Some s → space_at new.spaces id ≡ Some t
    → (t.parent ≡ s.parent) × (s.fallen ≡ true → t.fallen ≡ true)

-- tasks with the numbers, each with the relations that it has
pub record AreWatched (state : State) (numbers : List ℕ) (tasks : List Watched) : Type 0 where
  pub numbered : map (λ (w : Watched). w.number) tasks ≡ numbers
  pub before : (w : Watched) → IsIn w tasks → relations_at state.rows w.number ≡ Some w.before

-- numbers in rising order of which it is so; of every other of which it is so, it stays so
pub record MayEnd (so : State → ℕ → Bool) (old new : State) (numbers : List ℕ) : Type 0 where
  pub rising : IsRising numbers
  pub before : (n : ℕ) → IsIn n numbers → so old n ≡ true
  pub rest : (n : ℕ) → so old n ≡ true → (IsIn n numbers → ⊥) → so new n ≡ true

-- namespaces with the ids, each as it stands
pub record AreWatchedSpaces (state : State) (ids : List ℕ) (spaces : List WatchedSpace) : Type 0 where
  pub numbered : map (λ (w : WatchedSpace). w.id) spaces ≡ ids
  pub before : (w : WatchedSpace) → IsIn w spaces → takes_tasks state w.id ≡ w.stood

-- the tasks that a call may touch, and the process groups, the sessions and the namespaces that may end with that
pub record Watching : Type 0 where
  pub tasks : List Watched
  pub groups : List ℕ
  pub sessions : List ℕ
  pub spaces : List WatchedSpace

-- the way from the one state to the other may touch these tasks, and end these groups, sessions and namespaces, and no others
pub record Watches (old new : State) (w : Watching) : Type 0 where
  pub numbers : List ℕ
  pub touches : Touches old new numbers
  pub watched : AreWatched old numbers w.tasks
  pub groups : MayEnd (has_members_as Group) old new w.groups
  pub sessions : MayEnd (has_members_as Session) old new w.sessions
  pub ids : List ℕ
  pub spaces : MayEnd is_space old new ids
  pub standing : (id : ℕ) → takes_tasks old id ≡ true → (IsIn id ids → ⊥) → takes_tasks new id ≡ true
  pub watched_spaces : AreWatchedSpaces old ids w.spaces

-- how many effects there are at most: two on each task and each namespace, one on each group and each session
abbrev pub most_of : Watching → ℕ
most_of w = length w.tasks + length w.tasks + length w.groups + length w.sessions + length w.spaces + length w.spaces

-- and so many on all that a state has
abbrev pub most_in : State → ℕ
most_in state =
    length state.rows + length state.rows + length state.rows + length state.rows + length state.spaces + length state.spaces
