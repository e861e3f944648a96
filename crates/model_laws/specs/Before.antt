-- What each call does among processes without threads: the definitions as they were before there were threads, and that those with threads
-- do the same.
use Rattle.std.specs.Prelude.{◌≡◌, ℕ, ℤ, pos, negsuc, Bool, true, ◌&&◌, ◌||◌, not, ◌==◌, nat_le, List, [], length, map, filter, filter_map, Option, Some, None, if◌then◌else◌}
use Rattle.std.specs.Option.{option_map_or, option_eq}
use Rattle.std.specs.List.{list_any}
use Rattle.pid_types.specs.declared.call.Call.{Call}
use Rattle.pid_types.specs.declared.call.Call.TheVariants.{Fork, GetPid, NsPid, Exec, Exit, Wait, GetPpid, SetPgid, SetSid, RemoveControl, Move, GetPgid, GetSid, Next, Join, SetSubreaper}
use Rattle.pid_types.specs.declared.call.Kind.{Kind}
use Rattle.pid_types.specs.declared.call.Which.{Which}
use Rattle.pid_types.specs.declared.plain.Row.{Row}
use Rattle.pid_types.specs.declared.plain.Name.{Name}
use Rattle.pid_types.specs.declared.plain.Ended.{Ended}
use Rattle.pid_types.specs.declared.plain.Ended.TheVariants.{Exited, Killed}
use Rattle.pid_types.specs.declared.plain.Life.TheVariants.{Zombie}
use Rattle.pid_types.specs.declared.reply.Reply.{Reply}
use Rattle.pid_types.specs.declared.reply.Reply.TheVariants.{Done, Number, Levels as LevelList, Reaped, NoneYet, End, Refused}
use Rattle.pid_types.specs.declared.reply.Refusal.TheVariants.{NoCaller, NoTask, NoChild, BadGroup, IsLeader, TooDeep, Elsewhere, SpaceFallen, RootInit, RootControl, ControlBusy}
use Rattle.pid_types.specs.Bounds.{deepest_space}
use Rattle.pid_types.specs.Chains.{least_of}
use Rattle.pid_types.specs.State.{State}
use Rattle.pid_types.specs.Names.{taken}
use Rattle.pid_types.specs.Names.{number, number_or_zero, numbers_from, root_number, same_name, is_parent, is_live, is_member, level, live_row, task_numbered, names_in_use, with_row}
use Rattle.pid_types.specs.Controls.{is_below, count}
use Rattle.pid_types.specs.Outcome.{Outcome, answered, changed, for_found, refuse_if, unless_found}
use Rattle.pid_types.specs.Fork.{with_space, is_gone, no_room, forked}
use Rattle.pid_types.specs.Exit.{is_init, new_parent, goes_in_fall, fallen_below}
use Rattle.pid_types.specs.Wait.{matching, least_row, end_of, without_row, ended_children}
use Rattle.pid_types.specs.Groups.{is_negative, set_group_of, has_members, start_session}
use Rattle.pid_types.specs.Queries.{of_task, seen_number, name_by}
use Rattle.pid_types.specs.Changes.{on_control, without_control, set_children_space, set_mark}
use Rattle.pid_types.specs.Step.{step}

-- ---- states without threads

-- there is no thread beside the first ones, and none of these has left
pub record IsThreadless (state : State) : Type 0 where
  pub threads : state.threads ≡ []
  pub left : state.left ≡ []

-- ---- the definitions as they were

-- the numbers in use in the namespace
abbrev pub taken_before : State → ℕ → List ℕ
taken_before state s = filter_map (λ name. number state.spaces name s) (names_in_use state.rows)

-- the tasks in the control group's subtree
abbrev pub count_before : State → ℕ → ℕ
count_before state c = length (filter (λ row. is_below state.controls row.home c) state.rows)

-- the call of a live caller, by its root number
abbrev pub by_caller_before : State → ℕ → (Row → Outcome) → Outcome
by_caller_before state n call = for_found state (live_row state.rows n) NoCaller call

-- a fork
abbrev pub fork_before : State → ℕ → ℕ → Bool → Outcome
fork_before state stamp n new_space =
    by_caller_before state n (λ caller.
    let p = caller.children_space in
    let planned = if new_space then with_space state p stamp else state in
    let t = if new_space then stamp else p in
    refuse_if state (new_space && nat_le deepest_space (level state.spaces p)) TooDeep
    (refuse_if state (new_space && not (p == caller.name.space)) Elsewhere
    (refuse_if state (is_gone state p) SpaceFallen
    (unless_found state (no_room planned caller t) (λ r. r) (forked planned caller t)))))

-- the row after the task ended
abbrev pub row_after_exit_before : Row → Option Name → Ended → Row → Row
row_after_exit_before task heir ended row = record row {
  parent = if is_parent task.name row then heir else row.parent;
  life = if same_name row.name task.name then Zombie ended else row.life;
}

-- the row after the fall
abbrev pub row_after_fall_before : State → Row → ℕ → Row → Row
row_after_fall_before state init status row = record row {
  life = if same_name row.name init.name then Zombie (Exited status)
      else (if is_member state.spaces init.name.space row && is_live row then Zombie Killed else row.life);
}

-- the state after the namespace of the init fell
abbrev pub fall_before : State → Row → ℕ → State
fall_before state init status = record state {
  rows = map (row_after_fall_before state init status) (filter (λ row. not (goes_in_fall state init row)) state.rows);
  spaces = map (fallen_below state.spaces init.name.space) state.spaces;
}

-- an exit
abbrev pub exit_before : State → ℕ → ℕ → Outcome
exit_before state n status =
    by_caller_before state n (λ caller.
    refuse_if state (root_number caller.name == 1) RootInit
    (if is_init state caller then changed (fall_before state caller status) Done else
    changed (record state { rows = map (row_after_exit_before caller (new_parent state caller) (Exited status)) state.rows }) Done))

-- a wait
abbrev pub wait_before : State → ℕ → Which → Outcome
wait_before state n which =
    by_caller_before state n (λ caller.
    refuse_if state (length (matching state caller which) == 0) NoChild
    (option_map_or (λ row. changed (without_row state row) (Reaped (number_or_zero state.spaces row.name caller.name.space) (end_of row)))
    (least_row state caller.name.space (ended_children state caller which))
    (answered state NoneYet)))

-- whom setpgid names
abbrev pub target_of_before : State → Row → ℤ → Option Row
target_of_before state caller (pos n) = if n == 0 then Some caller else task_numbered state caller.name.space n
target_of_before state caller (negsuc n) = None

-- setpgid and setsid
abbrev pub set_pgid_before : State → ℕ → ℤ → ℤ → Outcome
set_pgid_before state n pid pgid =
    by_caller_before state n (λ caller.
    refuse_if state (is_negative pgid) BadGroup
    (for_found state (target_of_before state caller pid) NoTask (λ target. set_group_of state caller target pgid)))

abbrev pub set_sid_before : State → ℕ → Outcome
set_sid_before state n =
    by_caller_before state n (λ caller.
    refuse_if state (has_members state caller.name) IsLeader
    (changed (with_row state caller.name start_session) (Number (number_or_zero state.spaces caller.name caller.name.space))))

-- the answer to a live caller
abbrev pub asked_by_before : State → ℕ → (Row → Reply) → Reply
asked_by_before state n reply = option_map_or reply (live_row state.rows n) (Refused NoCaller)

-- whom the number names, where 0 is the caller
abbrev pub self_or_task_before : State → Row → ℕ → Option Row
self_or_task_before state caller pid = if pid == 0 then Some caller else task_numbered state caller.name.space pid

-- the queries
abbrev pub get_pid_before : State → ℕ → Reply
get_pid_before state n = asked_by_before state n (λ caller. Number (seen_number state caller caller.name))

abbrev pub get_ppid_before : State → ℕ → Reply
get_ppid_before state n = asked_by_before state n (λ caller. Number (option_map_or (seen_number state caller) caller.parent 0))

abbrev pub get_pgid_before : State → ℕ → ℕ → Reply
get_pgid_before state n pid =
    asked_by_before state n (λ caller.
    of_task (self_or_task_before state caller pid) (λ row. Number (seen_number state caller row.group)))

abbrev pub get_sid_before : State → ℕ → ℕ → Reply
get_sid_before state n pid =
    asked_by_before state n (λ caller.
    of_task (self_or_task_before state caller pid) (λ row. Number (seen_number state caller row.session)))

abbrev pub ns_pid_before : State → ℕ → ℕ → Reply
ns_pid_before state n target =
    asked_by_before state n (λ caller. of_task (task_numbered state caller.name.space target) (λ row.
    LevelList (record { items = numbers_from state.spaces row.name caller.name.space })))

abbrev pub next_before : State → ℕ → Kind → ℕ → Reply
next_before state n kind from =
    asked_by_before state n (λ caller. option_map_or Number
    (least_of (filter (nat_le from) (filter_map (λ row. number state.spaces (name_by kind row) caller.name.space) state.rows))) End)

-- the row, which has executed
abbrev pub set_executed_before : Row → Row
set_executed_before row = record row { executed = true }

-- an exec
abbrev pub exec_before : State → ℕ → Outcome
exec_before state n = by_caller_before state n (λ caller. changed (with_row state caller.name set_executed_before) Done)

-- whether a live task or a control group is directly in the control group
abbrev pub is_busy_before : State → ℕ → Bool
is_busy_before state id =
    list_any (λ row. (row.home == id) && is_live row) state.rows || list_any (λ c. option_eq ◌==◌ c.parent (Some id)) state.controls

-- the end of a control group
abbrev pub remove_control_before : State → ℕ → Outcome
remove_control_before state id =
    on_control state id (λ c.
    for_found state c.parent RootControl (λ parent.
    refuse_if state (is_busy_before state id) ControlBusy
    (changed (without_control state id parent) Done)))

-- the row in the control group
abbrev pub set_home_before : ℕ → Row → Row
set_home_before home row = record row { home = home }

-- a move
abbrev pub move_task_before : State → ℕ → ℕ → Outcome
move_task_before state n id =
    for_found state (live_row state.rows n) NoTask (λ task.
    on_control state id (λ c.
    changed (with_row state task.name (set_home_before id)) Done))

-- a join, and the subreaper's mark
abbrev pub join_before : State → ℕ → ℕ → Outcome
join_before state n target =
    by_caller_before state n (λ caller.
    for_found state (task_numbered state caller.name.space target) NoTask (λ row.
    refuse_if state (not (is_live row)) NoTask
    (changed (with_row state caller.name (set_children_space row.name.space)) Done)))

abbrev pub set_subreaper_before : State → ℕ → Bool → Outcome
set_subreaper_before state n on = by_caller_before state n (λ caller. changed (with_row state caller.name (set_mark on)) Done)

-- each call as it was; those that are not here did not change
abbrev pub as_before : State → ℕ → Call → Outcome
as_before state stamp (Fork caller new_space) = fork_before state stamp caller new_space
as_before state stamp (GetPid caller) = answered state (get_pid_before state caller)
as_before state stamp (NsPid caller target) = answered state (ns_pid_before state caller target)
as_before state stamp (Exec caller) = exec_before state caller
as_before state stamp (Exit caller status) = exit_before state caller status
as_before state stamp (Wait caller which) = wait_before state caller which
as_before state stamp (GetPpid caller) = answered state (get_ppid_before state caller)
as_before state stamp (SetPgid caller pid pgid) = set_pgid_before state caller pid pgid
as_before state stamp (SetSid caller) = set_sid_before state caller
as_before state stamp (RemoveControl id) = remove_control_before state id
as_before state stamp (Move task id) = move_task_before state task id
as_before state stamp (GetPgid caller pid) = answered state (get_pgid_before state caller pid)
as_before state stamp (GetSid caller pid) = answered state (get_sid_before state caller pid)
as_before state stamp (Next caller kind from) = answered state (next_before state caller kind from)
as_before state stamp (Join caller target) = join_before state caller target
as_before state stamp (SetSubreaper caller on) = set_subreaper_before state caller on
as_before state stamp call = step state stamp call

-- ---- the law

-- in a state without threads each call does what it did
abbrev pub DoesAsBefore : Type 0
DoesAsBefore = (state : State) (stamp : ℕ) (call : Call) → IsThreadless state → step state stamp call ≡ as_before state stamp call

-- the numbers taken and the counts are what they were
abbrev pub CountsAsBefore : Type 0
CountsAsBefore =
    (state : State) → IsThreadless state
    → ((s : ℕ) → taken state s ≡ taken_before state s)
    × ((c : ℕ) → count state c ≡ count_before state c)

-- and each leaves such a state
abbrev pub StaysThreadless : Type 0
StaysThreadless = (state : State) (stamp : ℕ) (call : Call) → IsThreadless state → IsThreadless (step state stamp call).state
