-- Who calls by a number, and what is true of a store with threads between two calls.
use Rattle.std.specs.Prelude.{◌≡◌, ℕ, true, false, Option, Some, None}
use Rattle.pid_types.specs.Sound.{IsSound}
use Rattle.pid_types.specs.Threads.{caller_of, thread_at}
use Rattle.pid_numbers.specs.Numbering.{id_at, identifier_at, Identifier}
use Rattle.process_threads.specs.declared.Thread.{Thread}
use Rattle.process_threads.specs.Threads.{left_at}
use Rattle.task_tree.specs.declared.Task.{Task}
use Rattle.task_tree.specs.Tree.{task_at, lives, has_live}
use Rattle.task_table.specs.declared.view.Found.{Found}
use Rattle.task_table.specs.Store.{Store, IsThread}
use Rattle.task_table.specs.View.{name_at, row_of}
use Rattle.task_table.specs.Whole.{HasParents}
use Rattle.thread_view.specs.declared.Calling.{Calling}
use Rattle.thread_view.specs.Full.{thread_row_of, full_state}

-- the process of each thread lives
abbrev pub HasProcesses : Store → Type 0
HasProcesses s = (k : ℕ) (t : Thread) → IsThread s.threads k t → has_live (task_at s.tree t.process) ≡ true

-- the state with its threads is sound, and parents and processes are tasks
pub record IsWholeWithThreads (s : Store) : Type 0 where
  pub sound : IsSound (full_state s)
  pub parents : HasParents s
  pub processes : HasProcesses s

-- the task is there
abbrev pub IsThere : Store → Found → Type 0
IsThere s f = task_at s.tree f.key ≡ Some f.task

-- the namespace has the id that is the task's own
abbrev pub HasOwnId : Store → Found → Type 0
HasOwnId s f = id_at s.numbering f.space ≡ Some (name_at s.numbering f.key).space

-- the thread of the process that calls by the number: another one than the first, or the first, which has not left
abbrev pub IsBy : Store → ℕ → ℕ → Option ℕ → Type 0
IsBy s number process None = (thread_at (full_state s) number ≡ None) × (left_at s.threads process ≡ false)
IsBy s number process (Some k) =
    (t : Thread) × IsThread s.threads k t × (t.process ≡ process) × (thread_at (full_state s) number ≡ Some (thread_row_of s k t))

-- who is found by a number of the root namespace: the live process of which a running thread has it
pub record IsCallingBy (s : Store) (number : ℕ) (c : Calling) : Type 0 where
  pub task : Task
  pub there : task_at s.tree c.process ≡ Some task
  pub live : lives task ≡ true
  pub row : caller_of (full_state s) number ≡ Some (row_of s c.process task)
  pub thread : IsBy s number c.process c.thread
  -- the namespace is the process's own
  pub own : (u : Identifier) → identifier_at s.numbering c.process ≡ Some u → c.space ≡ u.space
  pub id : id_at s.numbering c.space ≡ Some (name_at s.numbering c.process).space
