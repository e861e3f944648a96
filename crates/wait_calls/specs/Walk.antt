-- The walk over children or over the members of a group.
use Rattle.std.specs.Prelude.{ℕ, ◌==◌, ◌&&◌, Bool, List, [], ◌∷◌, Option, Some, None, option_map, nat_lt, if◌then◌else◌}
use Rattle.std.specs.Option.{option_eq}
use Rattle.task_table.specs.Store.{Store}
use Rattle.task_tree.specs.Tree.{parent_of, rank_of}
use Rattle.groups_sessions.specs.Membership.{group_of}
use Rattle.wait_calls.specs.declared.selection.Choice.{Choice}
use Rattle.wait_calls.specs.declared.selection.Choice.TheVariants.{NoChild, NoneEnded, Ended}

-- whether the task is a child of the caller and in the group
abbrev pub is_group_match : Store → ℕ → ℕ → ℕ → Bool
is_group_match s caller group k = option_eq ◌==◌ (parent_of s.tree k) (Some caller) && option_eq ◌==◌ (group_of s.members k) (Some group)

-- the rank alone of the ended task with the key
abbrev pub rank_alone : Store → ℕ → Option ℕ
rank_alone s k = option_map (λ (m : ℕ × ℕ). m.1) (rank_of s.tree k)

-- the choice among one child more
abbrev pub choice_with : Choice → ℕ → Option ℕ → Choice
choice_with NoChild k None = NoneEnded
choice_with NoChild k (Some r) = Ended k r
choice_with NoneEnded k None = NoneEnded
choice_with NoneEnded k (Some r) = Ended k r
choice_with (Ended j q) k None = Ended j q
choice_with (Ended j q) k (Some r) = if nat_lt r q then Ended k r else Ended j q

-- the choice when one task more was looked at
abbrev pub looked_at : Store → ℕ → ℕ → Choice → ℕ → Choice
looked_at s caller group choice k = if is_group_match s caller group k then choice_with choice k (rank_alone s k) else choice

-- the choice when all the tasks were looked at
abbrev pub walked : Store → ℕ → ℕ → Choice → List ℕ → Choice
walked s caller group choice [] = choice
walked s caller group choice (k ∷ keys) = walked s caller group (looked_at s caller group choice k) keys
