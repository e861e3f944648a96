-- What a wait finds, in the model's words.
use Rattle.std.specs.Prelude.{◌≡◌, ◌≢◌, ℕ, ◌==◌, false, [], length, Some}
use Rattle.pid_types.specs.declared.call.Which.{Which}
use Rattle.pid_types.specs.declared.call.Which.TheVariants.{Any as AnyChild, Pid, OwnGroup, Group as InGroup}
use Rattle.pid_types.specs.declared.plain.Row.{Row}
use Rattle.pid_types.specs.Names.{number_or_zero}
use Rattle.pid_types.specs.Wait.{matching, ended_children, least_row}
use Rattle.pid_numbers.specs.Numbering.{number_of}
use Rattle.task_tree.specs.declared.Task.{Task}
use Rattle.task_tree.specs.Tree.{task_at, lives}
use Rattle.groups_sessions.specs.Membership.{group_of}
use Rattle.task_table.specs.Store.{Store}
use Rattle.task_table.specs.View.{name_at, row_of}
use Rattle.thread_view.specs.Full.{full_state}
use Rattle.wait_calls.specs.declared.selection.Selected.{Selected}
use Rattle.wait_calls.specs.declared.selection.Selected.TheVariants.{Any, Task as OneTask, Group}
use Rattle.wait_calls.specs.declared.selection.Choice.{Choice}
use Rattle.wait_calls.specs.declared.selection.Choice.TheVariants.{NoChild, NoneEnded, Ended}

-- the key by which the wait of a caller in the namespace selects
abbrev pub Means : Store → ℕ → ℕ → Which → Selected → Type 0
Means s caller space AnyChild Any = Unit {0}
Means s caller space (Pid n) (OneTask j) = number_of s.numbering j space ≡ Some n
Means s caller space OwnGroup (Group g) = group_of s.members caller ≡ Some g
Means s caller space (InGroup n) (Group g) = number_of s.numbering g space ≡ Some n
Means s caller space _ _ = ⊥

-- the wait names a number that nobody has
abbrev pub IsUnknown : Store → ℕ → Which → Type 0
IsUnknown s space (Pid n) = (j : ℕ) → number_of s.numbering j space ≢ Some n
IsUnknown s space (InGroup n) = (j : ℕ) → number_of s.numbering j space ≢ Some n
IsUnknown s space _ = ⊥

-- the child is a task that has ended, and its row is the least of those that the wait selects
abbrev pub IsLeastEnded : Store → Row → Which → ℕ → Type 0
IsLeastEnded s caller which child =
    (t : Task) × (task_at s.tree child ≡ Some t) × (lives t ≡ false)
    × (least_row (full_state s) caller.name.space (ended_children (full_state s) caller which) ≡ Some (row_of s child t))

-- no child matches; or some do and none of them has ended; or else the child's row is the least of those that have, and its number
-- in the caller's namespace is the rank
abbrev pub IsTold : Store → Row → Which → Choice → Type 0
IsTold s caller which NoChild = matching (full_state s) caller which ≡ []
IsTold s caller which NoneEnded =
    ((length (matching (full_state s) caller which) == 0) ≡ false) × (ended_children (full_state s) caller which ≡ [])
IsTold s caller which (Ended child rank) =
    ((length (matching (full_state s) caller which) == 0) ≡ false)
    × IsLeastEnded s caller which child
    × (number_or_zero (full_state s).spaces (name_at s.numbering child) caller.name.space ≡ rank)
