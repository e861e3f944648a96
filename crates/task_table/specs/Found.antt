-- A task that was found, and one that calls.
use Rattle.std.specs.Prelude.{◌≡◌, ℕ, Some, true}
use Rattle.pid_types.specs.Names.{live_row}
use Rattle.pid_numbers.specs.Numbering.{id_at, identifier_at, Identifier}
use Rattle.task_tree.specs.declared.Task.{Task}
use Rattle.task_tree.specs.Tree.{task_at, lives}
use Rattle.task_table.specs.declared.view.Caller.{Caller}
use Rattle.task_table.specs.declared.view.Found.{Found}
use Rattle.task_table.specs.Store.{Store}
use Rattle.task_table.specs.View.{name_at, row_of, state_of}

-- the task is there, and the namespace is its own
pub record IsFound (s : Store) (f : Found) : Type 0 where
  pub there : task_at s.tree f.key ≡ Some f.task
  pub own : id_at s.numbering f.space ≡ Some (name_at s.numbering f.key).space

-- and it lives, so it may call
pub record IsCaller (s : Store) (f : Found) : Type 0 where
  pub found : IsFound s f
  pub live : lives f.task ≡ true

-- who is found by a number of the root namespace: the live task that has it
pub record IsCalling (s : Store) (number : ℕ) (c : Caller) : Type 0 where
  pub task : Task
  pub there : task_at s.tree c.key ≡ Some task
  pub live : lives task ≡ true
  pub row : live_row (state_of s).rows number ≡ Some (row_of s c.key task)
  -- the namespace is the identifier's own
  pub own : (u : Identifier) → identifier_at s.numbering c.key ≡ Some u → c.space ≡ u.space
  pub id : id_at s.numbering c.space ≡ Some (name_at s.numbering c.key).space

-- the namespace is the identifier's own
abbrev pub HasOwnSpace : Store → Found → Type 0
HasOwnSpace s f = (u : Identifier) → identifier_at s.numbering f.key ≡ Some u → f.space ≡ u.space
