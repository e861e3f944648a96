-- What is true of a table's store between two calls.
use Rattle.std.specs.Prelude.{◌≡◌, ℕ, Some, IsSome}
use Rattle.pid_types.specs.Sound.{IsSound}
use Rattle.task_tree.specs.Tree.{task_at, parent_of}
use Rattle.task_table.specs.Store.{Store, HasNoThreads}
use Rattle.task_table.specs.View.{state_of}

-- a parent's key is that of a task
abbrev pub HasParents : Store → Type 0
HasParents s = (k p : ℕ) → parent_of s.tree k ≡ Some p → IsSome (task_at s.tree p)

-- the state is sound, parents are tasks, and each process is one thread
pub record IsWhole (s : Store) : Type 0 where
  pub sound : IsSound (state_of s)
  pub parents : HasParents s
  pub alone : HasNoThreads s.threads
