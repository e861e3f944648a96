-- Threads: which tasks a process has, who calls, and whom a number names.
use Rattle.std.specs.Prelude.{◌||◌, ℕ, ◌+◌, Bool, ◌&&◌, not, ◌==◌, length, Option, if◌then◌else◌, find, filter}
use Rattle.std.specs.Option.{option_map_or}
use Rattle.std.specs.List.{list_any}
use Rattle.pid_types.specs.declared.plain.Name.{Name}
use Rattle.pid_types.specs.declared.plain.Row.{Row}
use Rattle.pid_types.specs.declared.plain.Thread.{Thread}
use Rattle.pid_types.specs.State.{State}
use Rattle.pid_types.specs.Names.{root_number, same_name, is_numbered, is_live}

-- ---- the threads of a process

-- whether the thread is one of the process beside its first one
abbrev pub is_thread_of : Name → Thread → Bool
is_thread_of process t = same_name t.process process

-- whether the first thread of the process with the root number has left
abbrev pub has_left : State → ℕ → Bool
has_left state n = list_any (λ process. root_number process == n) state.left

-- how many threads of the process run, the first one among them if it has not left
abbrev pub running : State → Row → ℕ
running state row = length (filter (is_thread_of row.name) state.threads) + (if has_left state (root_number row.name) then 0 else 1)

-- the state without the threads of the process beside its first one, which has not left
abbrev pub without_threads : Name → State → State
without_threads process state = record state {
  threads = filter (λ t. not (is_thread_of process t)) state.threads;
  left = filter (λ name. not (same_name name process)) state.left;
}

-- whether a thread of the process beside its first one has a name that passes the test
abbrev pub has_thread : State → (Name → Bool) → Row → Bool
has_thread state test row = list_any (λ t. test t.name && is_thread_of row.name t) state.threads

-- whether one has the root number
abbrev pub has_thread_at : State → ℕ → Row → Bool
has_thread_at state n row = has_thread state (λ name. root_number name == n) row

-- ---- who calls

-- the live process of which a running thread has the root number: clone(2), "all of the threads in a thread group share the same PID"
abbrev pub caller_of : State → ℕ → Option Row
caller_of state n =
    find (λ row. (has_thread_at state n row || (not (has_left state n) && (root_number row.name == n))) && is_live row) state.rows

-- the thread with the root number, beside first ones
abbrev pub thread_at : State → ℕ → Option Thread
thread_at state n = find (λ t. root_number t.name == n) state.threads

-- the process's row with what is that thread's own: where it is counted, and where its children go
abbrev pub as_thread : State → ℕ → Row → Row
as_thread state n row = record row {
  home = option_map_or (λ t. t.home) (thread_at state n) row.home;
  children_space = option_map_or (λ t. t.children_space) (thread_at state n) row.children_space;
}

-- ---- whom a number names

-- the live process of which any thread has the root number, a first one that has left too
abbrev pub process_at : State → ℕ → Option Row
process_at state n =
    find (λ row. (has_thread_at state n row || (root_number row.name == n)) && is_live row) state.rows

-- the process of which a thread has the number in the namespace, zombies among them
unfoldable pub process_numbered : State → ℕ → ℕ → Option Row
process_numbered state s n =
    find (λ row. has_thread state (λ name. is_numbered state.spaces name s n) row || is_numbered state.spaces row.name s n) state.rows

-- the thread, beside first ones, with the number in the namespace
abbrev pub thread_numbered : State → ℕ → ℕ → Option Thread
thread_numbered state s n = find (λ t. is_numbered state.spaces t.name s n) state.threads
