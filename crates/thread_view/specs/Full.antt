-- The model's state of a store with its threads: keys replaced by names and ids.
use Rattle.std.specs.Prelude.{ℕ, Option, Some, None, option_map, option_and_then, if◌then◌else◌}
use Rattle.pid_types.specs.declared.plain.Name.{Name}
use Rattle.pid_types.specs.declared.plain.Thread.{Thread as ThreadRow}
use Rattle.pid_types.specs.State.{State}
use Rattle.process_threads.specs.declared.Thread.{Thread}
use Rattle.process_threads.specs.Threads.{thread_with, left_at}
use Rattle.pids_charge.specs.Charges.{home_id}
use Rattle.task_table.specs.Store.{Store}
use Rattle.task_table.specs.Collect.{collect}
use Rattle.task_table.specs.View.{name_at, key_numbered, state_of}

-- the thread with the key, as the model has it
abbrev pub thread_row_of : Store → ℕ → Thread → ThreadRow
thread_row_of s k t = record {
  name = name_at s.numbering k;
  process = name_at s.numbering t.process;
  home = home_id s.charges t.home;
  children_space = t.children_space;
}

-- the row of the thread with the key
abbrev pub thread_row_with : Store → ℕ → Option ThreadRow
thread_row_with s k = option_map (thread_row_of s k) (thread_with s.threads k)

-- the row of the thread with the number in the root namespace
abbrev pub thread_row_numbered : Store → ℕ → Option ThreadRow
thread_row_numbered s n = option_and_then (thread_row_with s) (key_numbered s.numbering 0 n)

-- the name of the process with the key, if its first thread has left
abbrev pub mark_with : Store → ℕ → Option Name
mark_with s k = if left_at s.threads k then Some (name_at s.numbering k) else None

-- the same of the process with the number in the root namespace
abbrev pub mark_numbered : Store → ℕ → Option Name
mark_numbered s n = option_and_then (mark_with s) (key_numbered s.numbering 0 n)

-- the processes, namespaces and control groups, with the threads and the processes whose first thread has left by their numbers in the
-- root namespace
abbrev pub full_state : Store → State
full_state s = record (state_of s) {
  threads = collect (thread_row_numbered s) 0 s.numbering.pid_max;
  left = collect (mark_numbered s) 0 s.numbering.pid_max;
}
