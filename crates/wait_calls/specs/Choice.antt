-- Whom a wait reaps: waitpid(2) with WNOHANG, told by keys.
use Rattle.std.specs.Prelude.{◌≡◌, ℕ, ◌≤◌, true, false, Some}
use Rattle.task_table.specs.Store.{Store}
use Rattle.task_tree.specs.Tree.{task_at, parent_of, rank_of, is_zombie}
use Rattle.groups_sessions.specs.Membership.{group_of}
use Rattle.wait_calls.specs.declared.selection.Selected.{Selected}
use Rattle.wait_calls.specs.declared.selection.Selected.TheVariants.{Any, Task, Group}
use Rattle.wait_calls.specs.declared.selection.Choice.{Choice}
use Rattle.wait_calls.specs.declared.selection.Choice.TheVariants.{NoChild, NoneEnded, Ended}

-- the wait selects the task, if it is a child
abbrev pub IsSelectedKey : Store → Selected → ℕ → Type 0
IsSelectedKey s Any k = Unit {0}
IsSelectedKey s (Task j) k = k ≡ j
IsSelectedKey s (Group g) k = group_of s.members k ≡ Some g

-- a child of the caller that the wait selects
abbrev pub IsMatch : Store → ℕ → Selected → ℕ → Type 0
IsMatch s caller which k = (parent_of s.tree k ≡ Some caller) × IsSelectedKey s which k

-- there is no such child; or there are some and none has ended; or else of those that have, the one with the least rank
abbrev pub IsChoice : Store → ℕ → Selected → Choice → Type 0
IsChoice s caller which NoChild = (k : ℕ) → ¬ IsMatch s caller which k
IsChoice s caller which NoneEnded =
    ((k : ℕ) × IsMatch s caller which k) × ((k : ℕ) → IsMatch s caller which k → is_zombie (task_at s.tree k) ≡ false)
IsChoice s caller which (Ended child rank) =
    IsMatch s caller which child × (is_zombie (task_at s.tree child) ≡ true) × (rank_of s.tree child ≡ Some (caller, rank))
    × ((k r : ℕ) → IsMatch s caller which k → rank_of s.tree k ≡ Some (caller, r) → rank ≤ r)

-- of the children in the group that have ended, the one with the least rank; no child where none of them has
abbrev pub IsEndedChoice : Store → ℕ → ℕ → Choice → Type 0
IsEndedChoice s caller group NoChild = (k : ℕ) → IsMatch s caller (Group group) k → is_zombie (task_at s.tree k) ≡ false
IsEndedChoice s caller group NoneEnded = ⊥
IsEndedChoice s caller group (Ended child rank) = IsChoice s caller (Group group) (Ended child rank)
