-- Who takes the children of a task, by key.
use Rattle.std.specs.Prelude.{◌≡◌, ℕ, ◌+◌, ◌==◌, ◌&&◌, Bool, false, List, length, drop, find, Option, Some, MatchOption}
use Rattle.std.specs.Option.{option_map_or}
use Rattle.pid_types.specs.Chains.{climb}
use Rattle.pid_numbers.specs.Numbering.{Identifier, identifier_at, number_of}
use Rattle.task_tree.specs.Tree.{task_at, parent_of, is_subreaper}
use Rattle.task_table.specs.Store.{Store}

-- the parent, its parent and so on, nearest first
abbrev pub ancestor_keys : Store → ℕ → List ℕ
ancestor_keys s k = drop 1 (climb (parent_of s.tree) (length s.tree.tasks + 1) k)

-- whether the task is a subreaper whose own namespace this is
abbrev pub is_subreaper_of : Store → ℕ → ℕ → Bool
is_subreaper_of s space k = is_subreaper (task_at s.tree k) && option_map_or (λ u. u.space == space) (identifier_at s.numbering k) false

-- the task's nearest ancestor in the namespace that is a subreaper: PR_SET_CHILD_SUBREAPER(2const), "the nearest still living
-- ancestor subreaper"
abbrev pub nearest_subreaper_key : Store → ℕ → ℕ → Option ℕ
nearest_subreaper_key s space k = find (is_subreaper_of s space) (ancestor_keys s k)

-- who takes the children of the task: its nearest subreaper, or else the init of its own namespace
pub record IsHeir (s : Store) (key heir : ℕ) : Type 0 where
  pub identifier : Identifier
  pub named : identifier_at s.numbering key ≡ Some identifier
  pub found : MatchOption (nearest_subreaper_key s identifier.space key)
      (number_of s.numbering heir identifier.space ≡ Some 1) (λ a. heir ≡ a)
