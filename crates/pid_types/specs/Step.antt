-- One call, as one step from state to state.
use Rattle.std.specs.Prelude.{ℕ, Bool, true, false}
use Rattle.pid_types.specs.declared.call.Call.{Call}
use Rattle.pid_types.specs.declared.call.Call.TheVariants.{Fork, GetPid, NsPid, Exec, Exit, Wait, GetPpid, SetPgid, SetSid, MakeControl, RemoveControl, SetLimit, Move, Count, GetPgid, GetSid, Next, Join, SetSubreaper}
use Rattle.pid_types.specs.State.{State}
use Rattle.pid_types.specs.Outcome.{Outcome, answered}
use Rattle.pid_types.specs.Fork.{fork}
use Rattle.pid_types.specs.Exit.{exit}
use Rattle.pid_types.specs.Wait.{wait}
use Rattle.pid_types.specs.Groups.{set_pgid, set_sid}
use Rattle.pid_types.specs.Queries.{get_pid, get_ppid, get_pgid, get_sid, ns_pid, next}
use Rattle.pid_types.specs.Changes.{exec, make_control, remove_control, set_limit, move_task, count_tasks, join, set_subreaper}

-- what the call at the stamp comes to. The stamp is the id of what the call makes
unfoldable pub step : State → ℕ → Call → Outcome
step state stamp (Fork caller new_space) = fork state stamp caller new_space
step state stamp (GetPid caller) = answered state (get_pid state caller)
step state stamp (NsPid caller target) = answered state (ns_pid state caller target)
step state stamp (Exec caller) = exec state caller
step state stamp (Exit caller status) = exit state caller status
step state stamp (Wait caller which) = wait state caller which
step state stamp (GetPpid caller) = answered state (get_ppid state caller)
step state stamp (SetPgid caller pid pgid) = set_pgid state caller pid pgid
step state stamp (SetSid caller) = set_sid state caller
step state stamp (MakeControl parent) = make_control state stamp parent
step state stamp (RemoveControl id) = remove_control state id
step state stamp (SetLimit id limit) = set_limit state id limit
step state stamp (Move task id) = move_task state task id
step state stamp (Count id) = count_tasks state id
step state stamp (GetPgid caller pid) = answered state (get_pgid state caller pid)
step state stamp (GetSid caller pid) = answered state (get_sid state caller pid)
step state stamp (Next caller kind from) = answered state (next state caller kind from)
step state stamp (Join caller target) = join state caller target
step state stamp (SetSubreaper caller on) = set_subreaper state caller on

-- whether the call may need memory for what it makes
abbrev pub may_grow : Call → Bool
may_grow (Fork caller new_space) = true
may_grow (MakeControl parent) = true
may_grow _ = false

-- whether the call may make something that has the stamp as its id
abbrev pub makes_id : Call → Bool
makes_id (Fork caller new_space) = new_space
makes_id (MakeControl parent) = true
makes_id _ = false
