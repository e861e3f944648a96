-- The numbers of those who belong to a task, a group or a session, told by keys.
use Rattle.std.specs.Prelude.{◌≡◌, ◌↔◌, ◌≤◌, ◌++◌, ℕ, nat_le, List, filter, filter_map, ◌==◌, Option, Some, IsSome}
use Rattle.std.specs.Option.{option_map_or, option_eq}
use Rattle.member_lists.specs.Owners.{times}
use Rattle.pid_types.specs.declared.call.Kind.{Kind}
use Rattle.pid_types.specs.declared.call.Kind.TheVariants.{Task, Group, Session}
use Rattle.pid_types.specs.Membership.{IsIn}
use Rattle.pid_numbers.specs.Numbering.{Numbering, identifier_at, number_of}
use Rattle.task_tree.specs.Tree.{parent_of}
use Rattle.groups_sessions.specs.Membership.{group_of, session_of}
use Rattle.task_table.specs.Store.{Store}
use Rattle.task_table.specs.View.{name_at, state_of}
use Rattle.pid_types.specs.declared.plain.Row.{Row}
use Rattle.translate.specs.Pages.{is_meant}

-- the key of what the task with the key belongs to
abbrev pub owner_as : Store → Kind → ℕ → Option ℕ
owner_as s Task k = parent_of s.tree k
owner_as s Group k = group_of s.members k
owner_as s Session k = session_of s.members k

-- the numbers in the namespace, from one on, of the identifiers with the keys
abbrev pub numbers_of_keys : Numbering → ℕ → ℕ → List ℕ → List ℕ
numbers_of_keys b space from keys = filter (nat_le from) (filter_map (λ k. number_of b k space) keys)

-- how often the task's group stands among the groups
abbrev pub group_times : Store → List ℕ → ℕ → ℕ
group_times s groups k = option_map_or (λ g. times g groups) (group_of s.members k) 0

-- the numbers of those who are in the groups came behind others, of each task as often as its group stands there
pub record AddsGroups (s : Store) (space from : ℕ) (groups old new : List ℕ) : Type 0 where
  pub keys : List ℕ
  pub added : new ≡ old ++ numbers_of_keys s.numbering space from keys
  pub each : (k : ℕ) → times k keys ≡ group_times s groups k

-- a task with the number m in the namespace belongs to the owner
pub record IsOwned (s : Store) (space : ℕ) (kind : Kind) (owner m : ℕ) : Type 0 where
  pub key : ℕ
  pub belongs : owner_as s kind key ≡ Some owner
  pub has : number_of s.numbering key space ≡ Some m

-- the list has the numbers of such tasks from one on, each once
pub record AreGathered (s : Store) (space : ℕ) (kind : Kind) (owner from : ℕ) (numbers : List ℕ) : Type 0 where
  pub once : (m : ℕ) → times m numbers ≤ 1
  pub each : (m : ℕ) → IsIn m numbers ↔ ((from ≤ m) × IsOwned s space kind owner m)

-- of all identifiers the caller means this one alone, or none
abbrev pub IsMeantAlone : Store → Row → Kind → ℕ → Option ℕ → Type 0
IsMeantAlone s caller kind n owner =
    (p : ℕ) → IsSome (identifier_at s.numbering p)
    → is_meant (state_of s) caller kind n (name_at s.numbering p) ≡ option_eq ◌==◌ owner (Some p)
