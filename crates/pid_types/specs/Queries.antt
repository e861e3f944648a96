-- Queries: getpid(2), gettid(2), getppid(2), getpgid(2), getsid(2), Tgid and NSpid of proc_pid_status(5), and the next number in use.
use Rattle.std.specs.Prelude.{ℕ, ◌==◌, nat_le, filter, filter_map, Option, Some, if◌then◌else◌, List}
use Rattle.std.specs.Option.{option_map_or}
use Rattle.pid_types.specs.declared.call.Kind.{Kind}
use Rattle.pid_types.specs.declared.call.Kind.TheVariants.{Task, Group, Session}
use Rattle.pid_types.specs.declared.plain.Name.{Name}
use Rattle.pid_types.specs.declared.plain.Row.{Row}
use Rattle.pid_types.specs.declared.reply.Reply.{Reply}
use Rattle.pid_types.specs.declared.reply.Reply.TheVariants.{Number, Levels as LevelList, End, Refused}
use Rattle.pid_types.specs.declared.reply.Refusal.TheVariants.{NoTask, NoCaller}
use Rattle.pid_types.specs.Chains.{least_of}
use Rattle.pid_types.specs.State.{State}
use Rattle.pid_types.specs.Names.{number, number_or_zero, numbers_from, task_numbered}
use Rattle.pid_types.specs.Threads.{thread_at, caller_of, thread_numbered, process_numbered}

-- the answer to a live caller
abbrev pub asked_by : State → ℕ → (Row → Reply) → Reply
asked_by state n reply = option_map_or reply (caller_of state n) (Refused NoCaller)

-- the answer about the task that was found
abbrev pub of_task : Option Row → (Row → Reply) → Reply
of_task row reply = option_map_or reply row (Refused NoTask)

-- the number of the name as the caller sees it, 0 where it does not
abbrev pub seen_number : State → Row → Name → ℕ
seen_number state caller name = number_or_zero state.spaces name caller.name.space

-- the process that the number names, where 0 is the caller
abbrev pub self_or_task : State → Row → ℕ → Option Row
self_or_task state caller pid = if pid == 0 then Some caller else process_numbered state caller.name.space pid

-- what the row is named by, as the kind says
abbrev pub name_by : Kind → Row → Name
name_by Task row = row.name
name_by Group row = row.group
name_by Session row = row.session

-- the caller's number in its own namespace
unfoldable pub get_pid : State → ℕ → Reply
get_pid state n = asked_by state n (λ caller. Number (seen_number state caller caller.name))

-- the calling thread's number in its process's namespace
unfoldable pub get_tid : State → ℕ → Reply
get_tid state n =
    asked_by state n (λ caller. Number (seen_number state caller (option_map_or (λ t. t.name) (thread_at state n) caller.name)))

-- the number of the process of the thread: Tgid of proc_pid_status(5), "Thread group ID (i.e., Process ID)"
unfoldable pub get_tgid : State → ℕ → ℕ → Reply
get_tgid state n target =
    asked_by state n (λ caller.
    of_task (process_numbered state caller.name.space target) (λ row. Number (seen_number state caller row.name)))

-- the parent's number, 0 where it is not visible: pid_namespaces(7), "Calls to getppid(2) for such processes
-- return 0"
unfoldable pub get_ppid : State → ℕ → Reply
get_ppid state n = asked_by state n (λ caller. Number (option_map_or (seen_number state caller) caller.parent 0))

-- the number of the group that the task is in
unfoldable pub get_pgid : State → ℕ → ℕ → Reply
get_pgid state n pid =
    asked_by state n (λ caller. of_task (self_or_task state caller pid) (λ row. Number (seen_number state caller row.group)))

-- the number of the session that the task is in
unfoldable pub get_sid : State → ℕ → ℕ → Reply
get_sid state n pid =
    asked_by state n (λ caller. of_task (self_or_task state caller pid) (λ row. Number (seen_number state caller row.session)))

-- the numbers of the name, from the caller's namespace inwards
abbrev pub levels_to : State → Row → Name → Reply
levels_to state caller name = LevelList (record { items = numbers_from state.spaces name caller.name.space })

-- the task's numbers from the caller's namespace inwards
unfoldable pub ns_pid : State → ℕ → ℕ → Reply
ns_pid state n target =
    asked_by state n (λ caller. option_map_or (λ t. levels_to state caller t.name) (thread_numbered state caller.name.space target)
    (of_task (task_numbered state caller.name.space target) (λ row. levels_to state caller row.name)))

-- the numbers that are in use as the kind in the namespace
abbrev pub numbers_by : State → Kind → ℕ → List ℕ
numbers_by state kind s = filter_map (λ row. number state.spaces (name_by kind row) s) state.rows

-- the least of them from the given one on
unfoldable pub next : State → ℕ → Kind → ℕ → Reply
next state n kind from =
    asked_by state n (λ caller. option_map_or Number (least_of (filter (nat_le from) (numbers_by state kind caller.name.space))) End)

-- the least number from the given one on that a thread beside the first ones has: /proc/PID/task
unfoldable pub next_thread : State → ℕ → ℕ → Reply
next_thread state n from =
    asked_by state n (λ caller. option_map_or Number
    (least_of (filter (nat_le from) (filter_map (λ t. number state.spaces t.name caller.name.space) state.threads))) End)
