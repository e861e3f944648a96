-- Process groups and sessions: setpgid(2), setsid(2).
use Rattle.std.specs.Prelude.{ℕ, ℤ, pos, negsuc, Bool, true, false, ◌&&◌, ◌||◌, not, ◌==◌, Option, Some, None, if◌then◌else◌, find, option_map, is_some}
use Rattle.std.specs.List.{list_any}
use Rattle.pid_types.specs.declared.plain.Name.{Name}
use Rattle.pid_types.specs.declared.plain.Row.{Row}
use Rattle.pid_types.specs.declared.reply.Reply.TheVariants.{Done, Number}
use Rattle.pid_types.specs.declared.reply.Refusal.TheVariants.{BadGroup, NoTask, OtherSession, Executed, IsLeader, NoGroup}
use Rattle.pid_types.specs.State.{State}
use Rattle.pid_types.specs.Names.{number_or_zero, is_numbered, same_name, is_parent, with_row}
use Rattle.pid_types.specs.Threads.{thread_numbered, process_numbered}
use Rattle.pid_types.specs.Outcome.{Outcome, changed, for_found, refuse_if, by_caller}

-- whether the number is below 0
abbrev pub is_negative : ℤ → Bool
is_negative (pos n) = false
is_negative (negsuc n) = true

-- whom the number names: 0 the caller, a negative one nobody
abbrev pub target_of : State → Row → ℤ → Option Row
target_of state caller (pos n) = if n == 0 then Some caller else process_numbered state caller.name.space n
target_of state caller (negsuc n) = None

-- whether the number names a thread that is no process's first one
abbrev pub is_no_leader : State → Row → ℤ → Bool
is_no_leader state caller (pos n) = is_some (thread_numbered state caller.name.space n) && not (n == 0)
is_no_leader state caller (negsuc n) = false

-- the group with the number in the caller's namespace, if some task of the caller's session is in it
unfoldable pub session_group : State → Row → ℕ → Option Name
session_group state caller n =
    option_map (λ row. row.group)
    (find (λ row. same_name row.session caller.session && is_numbered state.spaces row.group caller.name.space n) state.rows)

-- the group that the number names for the target: 0 and the target's own number are its own identifier
abbrev pub group_for : State → Row → Row → ℤ → Option Name
group_for state caller target (pos n) =
    if (n == 0) || is_numbered state.spaces target.name caller.name.space n then Some target.name else session_group state caller n
group_for state caller target (negsuc n) = None

-- the row in the group
abbrev pub set_group : Name → Row → Row
set_group group row = record row { group = group }

-- the target goes into the group, or the first refusal of setpgid(2): EPERM for a child in another session, EACCES for one that
-- executed, ESRCH for who is neither the caller nor its child, EPERM for a session leader and for a group that is not there
unfoldable pub set_group_of : State → Row → Row → ℤ → Outcome
set_group_of state caller target pgid =
    let is_child = is_parent caller.name target in
    refuse_if state (is_child && not (same_name target.session caller.session)) OtherSession
    (refuse_if state (is_child && target.executed) Executed
    (refuse_if state (not (is_child || same_name target.name caller.name)) NoTask
    (refuse_if state (same_name target.session target.name) IsLeader
    (for_found state (group_for state caller target pgid) NoGroup (λ group. changed (with_row state target.name (set_group group)) Done)))))

-- the process that the first number names goes into the group that the second one names: setpgid(2), EINVAL for another thread
unfoldable pub set_pgid : State → ℕ → ℤ → ℤ → Outcome
set_pgid state n pid pgid =
    by_caller state n (λ caller.
    refuse_if state (is_negative pgid) BadGroup
    (for_found state (target_of state caller pid) NoTask (λ target.
    refuse_if state (is_no_leader state caller pid) BadGroup (set_group_of state caller target pgid))))

-- the row, which leads a group and a session of its own
abbrev pub start_session : Row → Row
start_session row = record row { group = row.name; session = row.name }

-- whether some task, zombies among them, is in the group
abbrev pub has_members : State → Name → Bool
has_members state group = list_any (λ row. same_name row.group group) state.rows

-- the caller leads a new session and a new group: setsid(2), EPERM where a process group with its number is there already
unfoldable pub set_sid : State → ℕ → Outcome
set_sid state n =
    by_caller state n (λ caller.
    refuse_if state (has_members state caller.name) IsLeader
    (changed (with_row state caller.name start_session) (Number (number_or_zero state.spaces caller.name caller.name.space))))
