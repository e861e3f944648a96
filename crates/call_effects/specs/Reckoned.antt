-- Whom a call may touch, exactly, and so how many effects it has at most.
use Rattle.std.specs.Prelude.{◌≡◌, ◌≢◌, ℕ, true, false, List, [], ◌∷◌, Option, Some, None, map, flat_map}
use Rattle.std.specs.List.Sorted.{IsPermutation}
use Rattle.pid_types.specs.declared.call.Call.{Call}
use Rattle.pid_types.specs.declared.call.Call.TheVariants.{Exit, Wait, SetPgid, SetSid}
use Rattle.pid_types.specs.declared.call.Kind.TheVariants.{Task, Group, Session}
use Rattle.pid_types.specs.declared.plain.Row.{Row}
use Rattle.pid_types.specs.declared.reply.Reply.{Reply}
use Rattle.pid_types.specs.declared.reply.Reply.TheVariants.{Done, Reaped}
use Rattle.pid_types.specs.Exit.{is_init}
use Rattle.pid_types.specs.Names.{live_row}
use Rattle.pid_types.specs.State.{State}
use Rattle.pid_types.specs.Step.{step}
use Rattle.translate.specs.declared.members.Reach.TheVariants.{Subtree}
use Rattle.translate.specs.declared.page.Whom.TheVariants.{Belonging, Namespace}
use Rattle.translate.specs.Pages.{AreListedFrom}
use Rattle.call_effects.specs.Belonging.{owner_by}
use Rattle.call_effects.specs.Spaces.{inner_path, watched_spaces}
use Rattle.call_effects.specs.Touched.{AreWatched, AreWatchedSpaces, Watching}
use Rattle.call_effects.specs.Whom.{none_or_one, root_seen, target_seen, IsRootList}

-- an exit that is made touches all in the caller's namespace and inside it, if the caller is its init; else the caller and its children
pub record ExitTouches (state : State) (stamp caller status : ℕ) (numbers : List ℕ) : Type 0 where
  pub refused : (step state stamp (Exit caller status)).reply ≢ Done → numbers ≡ []
  pub init : (row : Row) → (step state stamp (Exit caller status)).reply ≡ Done → live_row state.rows caller ≡ Some row
      → is_init state row ≡ true → IsRootList state (Namespace Subtree) caller numbers
  pub other : (row : Row) → (step state stamp (Exit caller status)).reply ≡ Done → live_row state.rows caller ≡ Some row
      → is_init state row ≡ false
      → (children : List ℕ) × IsRootList state (Belonging Task) caller children × IsPermutation (caller ∷ children) numbers

-- the root number of the child that a wait reaps
abbrev pub reaped_by : State → ℕ → Reply → Option ℕ
reaped_by state caller (Reaped child ended) = root_seen state caller child
reaped_by state caller _ = None

-- the root numbers of the tasks that the call may touch
abbrev pub IsTouching : State → ℕ → Call → List ℕ → Type 0
IsTouching state stamp (Exit caller status) numbers = ExitTouches state stamp caller status numbers
IsTouching state stamp (Wait caller which) numbers =
    numbers ≡ none_or_one (reaped_by state caller (step state stamp (Wait caller which)).reply)
IsTouching state stamp (SetPgid caller pid pgid) numbers = numbers ≡ none_or_one (target_seen state caller pid)
IsTouching state stamp (SetSid caller) numbers = numbers ≡ none_or_one (root_seen state caller 0)
IsTouching state stamp _ numbers = numbers ≡ []

-- these tasks, their process groups and sessions, and the namespaces of all these names and around them: each once
pub record IsReckoned (state : State) (numbers : List ℕ) (w : Watching) : Type 0 where
  pub tasks : AreWatched state numbers w.tasks
  pub groups : AreListedFrom (map (owner_by Group) w.tasks) 0 w.groups
  pub sessions : AreListedFrom (map (owner_by Session) w.tasks) 0 w.sessions
  pub own : List ℕ
  pub own_spaces : AreListedFrom (flat_map watched_spaces w.tasks) 0 own
  pub ids : List ℕ
  pub all_spaces : AreListedFrom (flat_map (inner_path state) own) 0 ids
  pub spaces : AreWatchedSpaces state ids w.spaces

-- the same of the tasks that the call may touch
abbrev pub Reckons : State → ℕ → Call → Watching → Type 0
Reckons state stamp call w = (numbers : List ℕ) × IsTouching state stamp call numbers × IsReckoned state numbers w
