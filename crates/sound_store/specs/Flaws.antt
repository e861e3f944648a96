-- What a flaw says of a store: first in the model's words, then by key, as each check finds it.
use Rattle.std.specs.Prelude.{◌≡◌, ℕ, ◌<◌, true, false, Some, IsSome}
use Rattle.pid_types.specs.declared.plain.Row.{Row}
use Rattle.pid_types.specs.declared.plain.Space.{Space}
use Rattle.pid_types.specs.Controls.{control_at}
use Rattle.pid_types.specs.Membership.{IsIn}
use Rattle.pid_types.specs.Names.{space_at, root_number, is_live}
use Rattle.pid_types.specs.Sound.{HasGoodParents, HasGoodChildrenSpace, HasLiveInit, IsTreeOfSpaces, RootStands}
use Rattle.pid_numbers.specs.Numbering.{number_of, has_fallen_at}
use Rattle.pids_charge.specs.Charges.{Charges}
use Rattle.task_tree.specs.declared.Task.{Task}
use Rattle.task_tree.specs.Tree.{task_at}
use Rattle.task_table.specs.declared.view.Found.{Found}
use Rattle.task_table.specs.Store.{Store}
use Rattle.task_table.specs.View.{parent_id, state_of}
use Rattle.task_table.specs.Whole.{HasParents}
use Rattle.sound_store.specs.declared.Flaw.{Flaw}
use Rattle.sound_store.specs.declared.Flaw.TheVariants.{NoMemory, Space as OfSpace, NoInit, Control, Parent, ChildrenSpace, Group, Fallen, Home}
use Rattle.sound_store.specs.Tasks.{has_good_parent, has_good_children, is_led, may_live, has_home}
use Rattle.sound_store.specs.Spaces.{HasInitTask}
use Rattle.sound_store.specs.Groups.{HasGoodControls}
use Rattle.sound_store.specs.Ways.{LeadsUp}

-- the namespace with the id stands without an init
pub record StandsAlone (s : Store) (id : ℕ) : Type 0 where
  pub space : Space
  pub there : IsIn space (state_of s).spaces
  pub named : space.id ≡ id
  pub stands : space.fallen ≡ false
  pub alone : HasLiveInit (state_of s).rows (state_of s).spaces id → ⊥

-- this is not so of the task with the root number
pub record IsWrong (s : Store) (n : ℕ) (P : Row → Type 0) : Type 0 where
  pub row : Row
  pub there : IsIn row (state_of s).rows
  pub number : root_number row.name ≡ n
  pub wrong : P row → ⊥

-- whoever the task's group is named after is in its session
abbrev pub IsLedWell : Store → Row → Type 0
IsLedWell s row = (leader : Row) → IsIn leader (state_of s).rows → row.group ≡ leader.name → row.session ≡ leader.session

-- the task has ended, or its namespace stands
abbrev pub LivesWell : Store → Row → Type 0
LivesWell s row = is_live row ≡ true → (space : Space) → space_at (state_of s).spaces row.name.space ≡ Some space → space.fallen ≡ false

-- the store has the flaw
abbrev pub IsFlaw : Store → Flaw → Type 0
IsFlaw s NoMemory = Unit {0}
IsFlaw s (OfSpace id) = IsTreeOfSpaces (state_of s).spaces × RootStands (state_of s).spaces → ⊥
IsFlaw s (NoInit id) = StandsAlone s id
IsFlaw s (Control id) = HasGoodControls s.charges → ⊥
IsFlaw s (Parent n) = IsWrong s n (λ row. HasGoodParents (state_of s).rows (state_of s).spaces row × HasParents s)
IsFlaw s (ChildrenSpace n) = IsWrong s n (HasGoodChildrenSpace (state_of s).spaces)
IsFlaw s (Group n) = IsWrong s n (IsLedWell s)
IsFlaw s (Fallen n) = IsWrong s n (LivesWell s)
IsFlaw s (Home n) = IsWrong s n (λ row. IsSome (control_at (state_of s).controls row.home))

-- a flaw of the namespace with the id and the key
abbrev pub IsSpaceFlaw : Store → ℕ → ℕ → Flaw → Type 0
IsSpaceFlaw s id space (OfSpace i) = ((p : ℕ) → parent_id s.numbering space ≡ Some p → p < id) → ⊥
IsSpaceFlaw s id space (NoInit i) = (i ≡ id) × (has_fallen_at s.numbering space ≡ false) × (HasInitTask s space → ⊥)
IsSpaceFlaw s id space _ = ⊥

-- a flaw of control groups
abbrev pub IsControlFlaw : Charges → Flaw → Type 0
IsControlFlaw v (Control id) = HasGoodControls v → ⊥
IsControlFlaw v _ = ⊥

-- a flaw of the task with the root number
abbrev pub IsTaskFlaw : Store → ℕ → Found → Flaw → Type 0
IsTaskFlaw s n f (Parent m) = (m ≡ n) × (has_good_parent s n f ≡ false)
IsTaskFlaw s n f (ChildrenSpace m) = (m ≡ n) × (has_good_children s f ≡ false)
IsTaskFlaw s n f (Group m) = (m ≡ n) × (is_led s f ≡ false)
IsTaskFlaw s n f (Fallen m) = (m ≡ n) × (may_live s f ≡ false)
IsTaskFlaw s n f (Home m) = (m ≡ n) × (has_home s f ≡ false)
IsTaskFlaw s n f _ = ⊥

-- a task's way leads to no first task in so many steps as there are numbers; or there was no memory
pub record IsLost (s : Store) (n : ℕ) : Type 0 where
  pub key : ℕ
  pub task : Task
  pub there : task_at s.tree key ≡ Some task
  pub number : number_of s.numbering key 0 ≡ Some n
  pub lost : LeadsUp s s.numbering.pid_max key → ⊥

abbrev pub IsWayFlaw : Store → Flaw → Type 0
IsWayFlaw s NoMemory = Unit {0}
IsWayFlaw s (Parent n) = IsLost s n
IsWayFlaw s _ = ⊥
