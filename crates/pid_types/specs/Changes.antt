-- The other changes: exec, control groups, join and the subreaper's mark.
use Rattle.std.specs.Prelude.{ℕ, Bool, true, false, ◌&&◌, ◌||◌, not, ◌==◌, nat_lt, [], ◌∷◌, ◌++◌, map, filter, length, Option, Some, None, if◌then◌else◌}
use Rattle.std.specs.Option.{option_map_or, option_eq}
use Rattle.std.specs.List.{list_any}
use Rattle.pid_types.specs.declared.plain.Name.{Name}
use Rattle.pid_types.specs.declared.plain.Row.{Row}
use Rattle.pid_types.specs.declared.plain.Control.{Control}
use Rattle.pid_types.specs.declared.reply.Reply.TheVariants.{Done, Control as ControlMade, Counted}
use Rattle.pid_types.specs.declared.reply.Refusal.TheVariants.{NoTask, NoControl, ControlDepth, RootControl, ControlBusy, BadLimit}
use Rattle.pid_types.specs.Bounds.{deepest_control, greatest_limit}
use Rattle.pid_types.specs.declared.plain.Thread.{Thread}
use Rattle.pid_types.specs.State.{State}
use Rattle.pid_types.specs.Names.{root_number, is_live, with_row}
use Rattle.pid_types.specs.Threads.{is_thread_of, has_left, without_threads, thread_at, as_thread, process_at, process_numbered}
use Rattle.pid_types.specs.Controls.{control_at, control_path, count}
use Rattle.pid_types.specs.Outcome.{Outcome, answered, changed, for_found, refuse_if, by_caller}

-- the row, which has executed, and goes on in the thread
abbrev pub set_executed : State → ℕ → Row → Row
set_executed state n row = record (as_thread state n row) { executed = true }

-- the state in which the calling thread is the only one of its process, and has executed
unfoldable pub after_exec : State → ℕ → Name → State
after_exec state n name = without_threads name (with_row state name (set_executed state n))

-- the caller executes a program: execve(2), "All threads other than the calling thread are destroyed"
unfoldable pub exec : State → ℕ → Outcome
exec state n = by_caller state n (λ caller. changed (after_exec state n caller.name) Done)

-- the call on a control group, by its id
abbrev pub on_control : State → ℕ → (Control → Outcome) → Outcome
on_control state id call = for_found state (control_at state.controls id) NoControl call

-- the state with one more control group, which has no limit
unfoldable pub with_control : State → ℕ → ℕ → State
with_control state parent id = record state { controls = state.controls ++ record { id = id; parent = Some parent; limit = None } ∷ [] }

-- a new control group below the parent: the kernel's cgroup-v2 document, "A child cgroup can be created by creating a sub-directory"
unfoldable pub make_control : State → ℕ → ℕ → Outcome
make_control state stamp parent =
    on_control state parent (λ c.
    refuse_if state (nat_lt deepest_control (length (control_path state.controls parent))) ControlDepth
    (changed (with_control state parent stamp) (ControlMade stamp)))

-- whether a running thread or a control group is directly in it
unfoldable pub is_busy : State → ℕ → Bool
is_busy state id =
    list_any (λ t. t.home == id) state.threads
    || (list_any (λ row. not (has_left state (root_number row.name)) && ((row.home == id) && is_live row)) state.rows
    || list_any (λ c. option_eq ◌==◌ c.parent (Some id)) state.controls)

-- the row with the one home in place of the other
abbrev pub rehome : ℕ → ℕ → Row → Row
rehome from to row = record row { home = if row.home == from then to else row.home }

-- the state without the control group, whose zombies go to its parent
unfoldable pub without_control : State → ℕ → ℕ → State
without_control state id parent = record state {
  rows = map (rehome id parent) state.rows;
  controls = filter (λ c. not (c.id == id)) state.controls;
}

-- the end of a control group: the cgroup-v2 document, "A cgroup which doesn't have any children or live processes can be destroyed ..
-- a cgroup which .. is associated only with zombie processes is considered empty"
unfoldable pub remove_control : State → ℕ → Outcome
remove_control state id =
    on_control state id (λ c.
    for_found state c.parent RootControl (λ parent.
    refuse_if state (is_busy state id) ControlBusy
    (changed (without_control state id parent) Done)))

-- the control group, with the limit if the id is its own
abbrev pub limited : ℕ → Option ℕ → Control → Control
limited id limit c = record c { limit = if c.id == id then limit else c.limit }

-- the state with the limit on the control group
unfoldable pub with_limit : State → ℕ → Option ℕ → State
with_limit state id limit = record state { controls = map (limited id limit) state.controls }

-- a write to pids.max, which takes up to PID_MAX_LIMIT
unfoldable pub set_limit : State → ℕ → Option ℕ → Outcome
set_limit state id limit =
    on_control state id (λ c.
    for_found state c.parent RootControl (λ parent.
    refuse_if state (option_map_or (nat_lt greatest_limit) limit false) BadLimit
    (changed (with_limit state id limit) Done)))

-- the row in the control group, unless its first thread has left
abbrev pub set_home : State → ℕ → Row → Row
set_home state home row = record row { home = if has_left state (root_number row.name) then row.home else home }

-- the thread in the control group, if it is one of the process
abbrev pub set_thread_home : Name → ℕ → Thread → Thread
set_thread_home process home t = record t { home = if is_thread_of process t then home else t.home }

-- the state with the process's running threads in the control group
unfoldable pub with_home : State → Name → ℕ → State
with_home state process home =
    record (with_row state process (set_home state home)) { threads = map (set_thread_home process home) state.threads }

-- a write of a process to cgroup.procs, which moves "all threads of the process". It is never blocked by a limit: the cgroup-v2
-- document, "Organisational operations are not blocked by cgroup policies"
unfoldable pub move_task : State → ℕ → ℕ → Outcome
move_task state n id =
    for_found state (process_at state n) NoTask (λ task.
    on_control state id (λ c.
    changed (with_home state task.name id) Done))

-- a read of pids.current
unfoldable pub count_tasks : State → ℕ → Outcome
count_tasks state id = on_control state id (λ c. answered state (Counted (count state id)))

-- the row, whose children go into the namespace
abbrev pub set_children_space : ℕ → Row → Row
set_children_space space row = record row { children_space = space }

-- the thread, whose children go into the namespace, if the root number is its own
abbrev pub set_thread_space : ℕ → ℕ → Thread → Thread
set_thread_space n space t = record t { children_space = if root_number t.name == n then space else t.children_space }

-- the state in which the calling thread's children go into the namespace
abbrev pub with_children_space : State → ℕ → Row → ℕ → State
with_children_space state n caller space =
    option_map_or (λ t. record state { threads = map (set_thread_space n space) state.threads })
    (thread_at state n) (with_row state caller.name (set_children_space space))

-- the calling thread's later children go into the target's namespace: setns(2), CLONE_NEWPID
unfoldable pub join : State → ℕ → ℕ → Outcome
join state n target =
    by_caller state n (λ caller.
    for_found state (process_numbered state caller.name.space target) NoTask (λ row.
    refuse_if state (not (is_live row)) NoTask
    (changed (with_children_space state n caller row.name.space) Done)))

-- the row with the mark of a subreaper, or without it
abbrev pub set_mark : Bool → Row → Row
set_mark on row = record row { subreaper = on }

-- the caller sets or clears its mark: PR_SET_CHILD_SUBREAPER(2const)
unfoldable pub set_subreaper : State → ℕ → Bool → Outcome
set_subreaper state n on = by_caller state n (λ caller. changed (with_row state caller.name (set_mark on)) Done)
