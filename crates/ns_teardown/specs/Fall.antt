-- What the fall of a namespace leaves, by key.
use Rattle.std.specs.Prelude.{◌≡◌, ◌≢◌, ℕ, ◌==◌, ◌||◌, Bool, false, nat_lt, Option, None, option_map, is_some, is_none, IsSome, if◌then◌else◌}
use Rattle.std.specs.Option.{option_map_or}
use Rattle.pid_types.specs.Controls.{control_at}
use Rattle.pid_types.specs.declared.plain.Life.{Life}
use Rattle.pid_types.specs.declared.plain.Life.TheVariants.{Zombie}
use Rattle.pid_types.specs.declared.plain.Ended.TheVariants.{Exited, Killed}
use Rattle.pid_numbers.specs.Numbering.{Numbering, namespace_at, number_of, fallen_within}
use Rattle.task_tree.specs.declared.Task.{Task}
use Rattle.task_tree.specs.Tree.{task_at, parent_of, lives}
use Rattle.groups_sessions.specs.Membership.{Membership, membership_at}
use Rattle.task_table.specs.Store.{Store}

-- what is at a key: the task, its parent, and its group and session
pub record Slot : Type 0 where
  pub task : Option Task
  pub parent : Option ℕ
  pub membership : Option Membership

abbrev pub slot_at : Store → ℕ → Slot
slot_at s k = record { task = task_at s.tree k; parent = parent_of s.tree k; membership = membership_at s.members k }

-- what is at other keys than this one is as it was
abbrev pub KeepsOthers : ℕ → Store → Store → Type 0
KeepsOthers key old new = (k : ℕ) → k ≢ key → slot_at new k ≡ slot_at old k

-- there is a root control group
abbrev pub HasRootGroup : Store → Type 0
HasRootGroup s = IsSome (control_at s.charges.controls 0)

-- a key without a task
abbrev pub vacant : Slot
vacant = record { task = None; parent = None; membership = None }

-- whether the identifier is visible in the namespace
abbrev pub is_visible_in : Numbering → ℕ → ℕ → Bool
is_visible_in b space k = is_some (number_of b k space)

-- whether the task's parent is a member of the namespace
abbrev pub has_parent_inside : Store → ℕ → ℕ → Bool
has_parent_inside s space k = option_map_or (is_visible_in s.numbering space) (parent_of s.tree k) false

-- the init has ended by its exit, and every other live member is killed: pid_namespaces(7), "the kernel terminates all of the
-- processes in the namespace via a SIGKILL signal"
abbrev pub life_after_fall : Bool → ℕ → Task → Life
life_after_fall is_init status t = if is_init then Zombie (Exited status) else (if lives t then Zombie Killed else t.life)

abbrev pub task_after_fall : Bool → ℕ → Task → Task
task_after_fall is_init status t = record t { life = life_after_fall is_init status t }

-- what is left of a member: nothing if it goes
abbrev pub member_after_fall : Bool → Bool → ℕ → Slot → Slot
member_after_fall goes is_init status x = if goes then vacant else record x { task = option_map (task_after_fall is_init status) x.task }

-- what is left at a key: a member goes if its parent is a member too, and who is no member stays as it was
abbrev pub slot_after_fall : Store → ℕ → ℕ → ℕ → ℕ → Slot
slot_after_fall s space init status k =
    if is_visible_in s.numbering space k then member_after_fall (has_parent_inside s space k) (k == init) status (slot_at s k)
    else slot_at s k

-- the namespace and all inside it have fallen, and nothing else has changed
pub record FallsWithin (space : ℕ) (old new : Numbering) : Type 0 where
  pub names : new.names ≡ old.names
  pub order : new.order ≡ old.order
  pub namespaces : (s : ℕ) → namespace_at new s ≡ option_map (fallen_within space) (namespace_at old s)
  pub bound : new.pid_max ≡ old.pid_max

-- whether the task goes with its parent, read while others have gone already: the parent is a member of the namespace, or was one
abbrev pub parent_falls_at : Store → ℕ → ℕ → Bool
parent_falls_at s space k = option_map_or (λ p. is_none (task_at s.tree p) || is_visible_in s.numbering space p) (parent_of s.tree k) false

-- whether the task's number in the namespace is below the cursor
abbrev pub is_passed : Numbering → ℕ → ℕ → ℕ → Bool
is_passed b space cursor k = option_map_or (λ n. nat_lt n cursor) (number_of b k space) false

-- what is at a key when the walk over the members has come to the cursor
abbrev pub slot_midway : Store → ℕ → ℕ → ℕ → ℕ → ℕ → Slot
slot_midway s space init status cursor k =
    if is_passed s.numbering space cursor k then slot_after_fall s space init status k else slot_at s k
