-- The way from a task to its parent, the parent's parent and so on, by key.
use Rattle.std.specs.Prelude.{◌≡◌, ℕ, Bool, true, false, List, length, Some, slice_index_or}
use Rattle.pid_types.specs.Chains.{climb}
use Rattle.pid_types.specs.Membership.{IsIn}
use Rattle.pid_numbers.specs.Numbering.{number_of}
use Rattle.task_tree.specs.declared.Task.{Task}
use Rattle.task_tree.specs.Tree.{task_at, parent_of}
use Rattle.task_table.specs.Store.{Store}

-- the key is that of the task with number 1 in the root namespace
abbrev pub IsFirstTask : Store → ℕ → Type 0
IsFirstTask s k = number_of s.numbering k 0 ≡ Some 1

-- so many keys of the way, the task's own among them, have the first task's
abbrev pub LeadsUp : Store → ℕ → ℕ → Type 0
LeadsUp s most k = (first : ℕ) × IsFirstTask s first × IsIn first (climb (parent_of s.tree) most k)

-- the way leads to the first task
abbrev pub Reaches : Store → ℕ → Type 0
Reaches s k = (most : ℕ) × LeadsUp s most k

-- the first task is marked, and whatever is marked leads to it
pub record AreReached (s : Store) (known : List Bool) : Type 0 where
  pub room : length known ≡ length s.tree.tasks
  pub first : (k : ℕ) → IsFirstTask s k → slice_index_or known k false ≡ true
  pub reach : (k : ℕ) → slice_index_or known k false ≡ true → Reaches s k

-- the way of the task with the key does, if there is one
abbrev pub HasWayAt : Store → ℕ → Type 0
HasWayAt s key = (t : Task) → task_at s.tree key ≡ Some t → Reaches s key

-- the way of each task leads to the first
abbrev pub HasWays : Store → Type 0
HasWays s = (k : ℕ) (t : Task) → task_at s.tree k ≡ Some t → Reaches s k
