-- What is true of the tasks of a table between any two calls, by key.
use Rattle.std.specs.Prelude.{◌≡◌, ◌≢◌, ℕ, true, false, length, Some, None, IsSome}
use Rattle.pid_types.specs.Chains.{climb, contains}
use Rattle.pid_numbers.specs.Numbering.{Namespace, Identifier, namespace_at, identifier_at, path_at, number_of, has_fallen_at}
use Rattle.task_tree.specs.declared.Task.{Task}
use Rattle.task_tree.specs.Tree.{task_at, parent_of, lives}
use Rattle.task_table.specs.Store.{Store}
use Rattle.task_table.specs.Whole.{HasParents}
use Rattle.task_table.specs.declared.view.Found.{Found}

-- a task whose own namespace this is has number 1 in it: pid_namespaces(7), "The namespace init process"
pub record HasInit (s : Store) (space : ℕ) : Type 0 where
  pub key : ℕ
  pub task : IsSome (task_at s.tree key)
  pub identifier : Identifier
  pub named : identifier_at s.numbering key ≡ Some identifier
  pub own : identifier.space ≡ space
  pub first : number_of s.numbering key space ≡ Some 1

-- the task is not number 1 in its own namespace
abbrev pub IsNoInit : Store → Found → Type 0
IsNoInit s f = (u : Identifier) → identifier_at s.numbering f.key ≡ Some u → number_of s.numbering f.key u.space ≢ Some 1

-- the task is number 1 in its own namespace, which is not the root
abbrev pub IsInnerInit : Store → Found → Type 0
IsInnerInit s f =
    (u : Identifier) → identifier_at s.numbering f.key ≡ Some u
    → (number_of s.numbering f.key u.space ≡ Some 1) × (u.space ≢ 0)

pub record HasGoodTasks (s : Store) : Type 0 where
  -- a parent is a task
  pub parents : HasParents s
  -- in the child's namespace or around it
  pub around : (k p : ℕ) (u v : Identifier) → parent_of s.tree k ≡ Some p → identifier_at s.numbering k ≡ Some u
      → identifier_at s.numbering p ≡ Some v
      → contains (path_at s.numbering u.space) v.space ≡ true
  -- and outside it if the child is its init
  pub outside : (k p : ℕ) (u v : Identifier) → parent_of s.tree k ≡ Some p → identifier_at s.numbering k ≡ Some u
      → identifier_at s.numbering p ≡ Some v
      → number_of s.numbering k u.space ≡ Some 1 → v.space ≢ u.space
  -- the climb from each task on ends at one that has no parent
  pub chain : (k : ℕ) → IsSome (task_at s.tree k) → (a : ℕ) × (contains (climb (parent_of s.tree) (length s.tree.tasks) k) a ≡ true)
      × (parent_of s.tree a ≡ None)
  -- a namespace that has not fallen has an init
  pub inits : (n : ℕ) (t : Namespace) → namespace_at s.numbering n ≡ Some t → t.fallen ≡ false → HasInit s n
  -- nothing lives in one that has
  pub emptied : (n k : ℕ) (t : Task) → has_fallen_at s.numbering n ≡ true → task_at s.tree k ≡ Some t → lives t ≡ true
      → number_of s.numbering k n ≡ None
