-- A store before its first task.
use Rattle.std.specs.Prelude.{◌≡◌, ◌≢◌, ℕ, [], ◌∷◌, Some, None}
use Rattle.pid_numbers.specs.Numbering.{namespace_at, identifier_at, new_namespace}
use Rattle.task_tree.specs.Tree.{task_at}
use Rattle.task_table.specs.Store.{Store, HasNoThreads}

-- the root namespace and the root control group, and no task
pub record IsBare (s : Store) : Type 0 where
  pub root : namespace_at s.numbering 0 ≡ Some (new_namespace 0 (0 ∷ []))
  pub others : (q : ℕ) → q ≢ 0 → namespace_at s.numbering q ≡ None
  pub order : s.numbering.order ≡ (0, 0) ∷ []
  pub names : (i : ℕ) → identifier_at s.numbering i ≡ None
  pub tasks : (k : ℕ) → task_at s.tree k ≡ None
  pub members : s.members ≡ []
  pub threads : HasNoThreads s.threads
  pub controls : s.charges.controls ≡ record { id = 0; parent = None; limit = None } ∷ []
