-- Exit, new parents, and the fall of a namespace.
use Rattle.std.specs.Prelude.{ℕ, ◌+◌, Bool, false, ◌&&◌, ◌||◌, not, ◌==◌, List, map, length, drop, Option, if◌then◌else◌, find, filter, option_and_then, option_map}
use Rattle.std.specs.Option.{option_map_or}
use Rattle.pid_types.specs.declared.plain.Name.{Name}
use Rattle.pid_types.specs.declared.plain.Row.{Row}
use Rattle.pid_types.specs.declared.plain.Space.{Space}
use Rattle.pid_types.specs.declared.plain.Life.TheVariants.{Zombie}
use Rattle.pid_types.specs.declared.plain.Ended.{Ended}
use Rattle.pid_types.specs.declared.plain.Ended.TheVariants.{Exited, Killed}
use Rattle.pid_types.specs.declared.reply.Reply.TheVariants.{Done}
use Rattle.pid_types.specs.declared.reply.Refusal.TheVariants.{RootInit}
use Rattle.pid_types.specs.Chains.{climb}
use Rattle.pid_types.specs.State.{State}
use Rattle.pid_types.specs.Names.{is_numbered, root_number, same_name, is_parent, is_live, is_member, is_within, row_at, task_numbered}
use Rattle.pid_types.specs.Threads.{without_threads}
use Rattle.pid_types.specs.Outcome.{Outcome, changed, refuse_if, by_caller}

-- whether the task is the init of its own namespace, number 1 there: pid_namespaces(7), "The namespace init process"
abbrev pub is_init : State → Row → Bool
is_init state row = is_numbered state.spaces row.name row.name.space 1

-- the root number of the parent of the task with the root number
abbrev pub parent_number : List Row → ℕ → Option ℕ
parent_number rows n = option_and_then (λ row. option_map root_number row.parent) (row_at rows n)

-- the parent, its parent and so on, nearest first, by their root numbers
abbrev pub ancestors : List Row → Row → List ℕ
ancestors rows row = drop 1 (climb (parent_number rows) (length rows + 1) (root_number row.name))

-- whether the task with the root number is a subreaper whose own namespace this is
abbrev pub is_subreaper_in : List Row → ℕ → ℕ → Bool
is_subreaper_in rows s n = option_map_or (λ row. row.subreaper && (row.name.space == s)) (row_at rows n) false

-- the root number of the task's nearest ancestor in its own namespace that is a subreaper: PR_SET_CHILD_SUBREAPER(2const), "the
-- nearest still living ancestor subreaper"
abbrev pub nearest_subreaper : List Row → Row → Option ℕ
nearest_subreaper rows row = find (is_subreaper_in rows row.name.space) (ancestors rows row)

-- who takes the children of the task: its nearest subreaper, or else the init of its own namespace
unfoldable pub new_parent : State → Row → Option Name
new_parent state row =
    option_map (λ r. r.name) (option_map_or (row_at state.rows) (nearest_subreaper state.rows row) (task_numbered state row.name.space 1))

-- the row after the task ended and its children went to another: _exit(2)
abbrev pub row_after_exit : Row → Option Name → Ended → Row → Row
row_after_exit task heir ended row = record row {
  parent = if is_parent task.name row then heir else row.parent;
  life = if same_name row.name task.name then Zombie ended else row.life;
}

-- the rows after the task ended, with its children handed on
unfoldable pub rows_after_exit : State → Row → ℕ → List Row
rows_after_exit state task status = map (row_after_exit task (new_parent state task) (Exited status)) state.rows

-- the state after the task ended, with all its threads: _exit(2), "any .. threads .. are terminated"
unfoldable pub handed_over : State → Row → ℕ → State
handed_over state task status = without_threads task.name (record state { rows = rows_after_exit state task status })

-- whether the row's parent is a member of the namespace
abbrev pub has_parent_within : State → ℕ → Row → Bool
has_parent_within state s row = option_map_or (λ parent. is_within state.spaces parent.space s) row.parent false

-- whether the fall by the end of the init takes the row away: it is another member, and its parent is a member
abbrev pub goes_in_fall : State → Row → Row → Bool
goes_in_fall state init row =
    not (same_name row.name init.name) && is_member state.spaces init.name.space row && has_parent_within state init.name.space row

-- the row after the fall: the init has ended by its exit, and every other live member is killed: pid_namespaces(7), "the kernel
-- terminates all of the processes in the namespace via a SIGKILL signal"
abbrev pub row_after_fall : State → Row → ℕ → Row → Row
row_after_fall state init status row = record row {
  life = if same_name row.name init.name then Zombie (Exited status)
      else (if is_member state.spaces init.name.space row && is_live row then Zombie Killed else row.life);
}

-- the rows after the namespace fell by the end of its init
unfoldable pub rows_after_fall : State → Row → ℕ → List Row
rows_after_fall state init status = map (row_after_fall state init status) (filter (λ row. not (goes_in_fall state init row)) state.rows)

-- whether the name is of the namespace or of one inside it
abbrev pub is_of : List Space → ℕ → Name → Bool
is_of spaces s name = is_within spaces name.space s

-- the namespace, fallen if it is s or below it
abbrev pub fallen_below : List Space → ℕ → Space → Space
fallen_below spaces s t = record t { fallen = t.fallen || is_within spaces t.id s }

-- the state after the namespace of the init fell
unfoldable pub fall : State → Row → ℕ → State
fall state init status = record state {
  rows = rows_after_fall state init status;
  threads = filter (λ t. not (is_of state.spaces init.name.space t.name)) state.threads;
  left = filter (λ name. not (is_of state.spaces init.name.space name)) state.left;
  spaces = map (fallen_below state.spaces init.name.space) state.spaces;
}

-- the end of a process, and of its namespace if it is the init there. The root init stays
abbrev pub ends : State → ℕ → Row → Outcome
ends state status caller =
    refuse_if state (root_number caller.name == 1) RootInit
    (if is_init state caller then changed (fall state caller status) Done else changed (handed_over state caller status) Done)

-- the end of the caller, by any of its threads: exit_group(2), "terminates .. all threads in the calling process's thread group"
unfoldable pub exit : State → ℕ → ℕ → Outcome
exit state n status = by_caller state n (ends state status)
