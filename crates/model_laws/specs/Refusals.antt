-- Refusals: for which reason each comes, in which order, and that they change nothing.
use Rattle.std.specs.Prelude.{◌≡◌, ◌⊎◌, ℕ, ℤ, pos, negsuc, ◌+◌, ◌<◌, ◌≤◌, Bool, true, false, List, [], ◌∷◌, length, Option, Some, None, IsTrue}
use Rattle.pid_types.specs.declared.call.Call.{Call}
use Rattle.pid_types.specs.declared.call.Call.TheVariants.{Fork, GetPid, NsPid, Exec, Exit, Wait, GetPpid, SetPgid, SetSid, MakeControl, RemoveControl, SetLimit, Move, Count, GetPgid, GetSid, Next, Join, SetSubreaper}
use Rattle.pid_types.specs.declared.call.Which.{Which}
use Rattle.pid_types.specs.declared.call.Which.TheVariants.{Any, Pid, OwnGroup, Group}
use Rattle.pid_types.specs.declared.plain.Name.{Name}
use Rattle.pid_types.specs.declared.plain.Row.{Row}
use Rattle.pid_types.specs.declared.plain.Space.{Space}
use Rattle.pid_types.specs.declared.plain.Control.{Control}
use Rattle.pid_types.specs.declared.reply.Reply.{Reply}
use Rattle.pid_types.specs.declared.reply.Reply.TheVariants.{Refused, NoneYet}
use Rattle.pid_types.specs.declared.reply.Refusal.{Refusal}
use Rattle.pid_types.specs.declared.reply.Refusal.TheVariants.{NoCaller, NoTask, NoChild, NoNumber, PidsLimit, SpaceFallen, TooDeep, Elsewhere, BadGroup, OtherSession, IsLeader, NoGroup, Executed, RootInit, NoControl, ControlBusy, RootControl, BadLimit, ControlDepth}
use Rattle.pid_types.specs.Bounds.{deepest_space, deepest_control, greatest_limit}
use Rattle.pid_types.specs.Membership.{IsIn}
use Rattle.pid_types.specs.declared.plain.Thread.{Thread}
use Rattle.pid_types.specs.State.{State}
use Rattle.pid_types.specs.Names.{level, path_up, number, root_number, is_live, taken}
use Rattle.pid_types.specs.Threads.{running, as_thread}
use Rattle.pid_types.specs.Draw.{restart, cursor_of}
use Rattle.pid_types.specs.Controls.{control_path, count, is_limited_below}
use Rattle.pid_types.specs.Fork.{with_space}
use Rattle.pid_types.specs.Step.{step}
use Rattle.pid_types.specs.declared.call.ThreadCall.{ThreadCall}
use Rattle.pid_types.specs.declared.call.ThreadCall.TheVariants.{NewThread, Leave, GetTid, GetTgid, NextThread}
use Rattle.pid_types.specs.ThreadStep.{thread_step}
use Rattle.model_laws.specs.Draws.{IsFull}

-- ---- the order of refusals

-- the call is not refused
abbrev pub goes_on : Option Refusal → Type 0
goes_on reply = reply ≡ None

-- the refusal, where its reason holds; else what comes later
abbrev pub refuse : Type 0 → Refusal → (Option Refusal → Type 0) → Option Refusal → Type 0
refuse reason r later reply = (reason × (reply ≡ Some r)) ⊎ ((reason → ⊥) × later reply)

-- the refusal, where nothing fits; else what comes later, for one that does
abbrev pub find_one : {A : Type 0} → (A → Type 0) → Refusal → (A → Option Refusal → Type 0) → Option Refusal → Type 0
find_one {A} fits r later reply = ((a : A) × fits a × later a reply) ⊎ (((a : A) → fits a → ⊥) × (reply ≡ Some r))

-- the refusal of the first of them for whom its reason holds; else what comes later
abbrev pub refuse_first : (ℕ → Type 0) → (ℕ → Refusal) → List ℕ → (Option Refusal → Type 0) → Option Refusal → Type 0
refuse_first reason r [] later reply = later reply
refuse_first reason r (x ∷ xs) later reply = refuse (reason x) (r x) (refuse_first reason r xs later) reply

-- ---- whom and what the numbers of a call name

-- a thread of the process beside its first one has the root number
abbrev pub HasThread : State → ℕ → Row → Type 0
HasThread state n row = (t : Thread) × IsIn t state.threads × (root_number t.name ≡ n) × (t.process ≡ row.name)

-- the first thread of the process has the root number
abbrev pub IsFirstThread : ℕ → Row → Type 0
IsFirstThread n row = root_number row.name ≡ n

-- the first thread of the process with the root number has left
abbrev pub HasLeft : State → ℕ → Type 0
HasLeft state n = (name : Name) × IsIn name state.left × (root_number name ≡ n)

-- the live process of which a running thread has the root number
abbrev pub IsCallingProcess : State → ℕ → Row → Type 0
IsCallingProcess state n row =
    IsIn row state.rows × (is_live row ≡ true) × (HasThread state n row ⊎ ((HasLeft state n → ⊥) × IsFirstThread n row))

-- the live process of which any thread has the root number, a first one that has left too
abbrev pub IsProcessAt : State → ℕ → Row → Type 0
IsProcessAt state n row = IsIn row state.rows × (is_live row ≡ true) × (HasThread state n row ⊎ IsFirstThread n row)

-- a thread beside first ones has the number in the caller's namespace
abbrev pub IsThreadTo : State → Row → ℕ → Thread → Type 0
IsThreadTo state caller n t = IsIn t state.threads × (number state.spaces t.name caller.name.space ≡ Some n)

-- the process of which a thread has the number in the caller's namespace, zombies among them
abbrev pub IsTaskTo : State → Row → ℕ → Row → Type 0
IsTaskTo state caller n row =
    IsIn row state.rows
    × (((t : Thread) × IsThreadTo state caller n t × (t.process ≡ row.name)) ⊎ (number state.spaces row.name caller.name.space ≡ Some n))

-- the name of a task that has the number in the caller's namespace
abbrev pub IsNameTo : State → Row → ℕ → Name → Type 0
IsNameTo state caller n name =
    ((t : Thread) × IsThreadTo state caller n t × (t.name ≡ name))
    ⊎ ((row : Row) × IsIn row state.rows × (number state.spaces row.name caller.name.space ≡ Some n) × (row.name ≡ name))

-- the same, where 0 names the caller
abbrev pub IsSelfOrTask : State → Row → ℕ → Row → Type 0
IsSelfOrTask state caller n row = ((n ≡ 0) × (row ≡ caller)) ⊎ ((n ≡ 0 → ⊥) × IsTaskTo state caller n row)

-- and where a negative number names nobody
abbrev pub IsTarget : State → Row → ℤ → Row → Type 0
IsTarget state caller (pos n) row = IsSelfOrTask state caller n row
IsTarget state caller (negsuc n) row = ⊥

-- the number names a thread that is no process's first one, but not where it is 0
abbrev pub NamesThread : State → Row → ℤ → Type 0
NamesThread state caller (pos n) = ((t : Thread) × IsThreadTo state caller n t) × (n ≡ 0 → ⊥)
NamesThread state caller (negsuc n) = ⊥

-- the task is a child of the other
abbrev pub IsChild : Row → Row → Type 0
IsChild parent row = row.parent ≡ Some parent.name

-- a wait of the caller selects the child: waitpid(2)
abbrev pub IsSelected : State → Row → Which → Row → Type 0
IsSelected state caller Any row = Unit {0}
IsSelected state caller (Pid n) row = number state.spaces row.name caller.name.space ≡ Some n
IsSelected state caller OwnGroup row = row.group ≡ caller.group
IsSelected state caller (Group n) row = number state.spaces row.group caller.name.space ≡ Some n

-- the number is 0, or the target's own in the caller's namespace
abbrev pub NamesTarget : State → Row → Row → ℕ → Type 0
NamesTarget state caller target n = (n ≡ 0) ⊎ (number state.spaces target.name caller.name.space ≡ Some n)

-- the group with the number in the caller's namespace, which some task of the caller's session is in
abbrev pub IsSessionGroup : State → Row → ℕ → Name → Type 0
IsSessionGroup state caller n group =
    (row : Row) × IsIn row state.rows × (row.session ≡ caller.session) × (row.group ≡ group)
    × (number state.spaces group caller.name.space ≡ Some n)

-- the group that the target is to go into: setpgid(2), "If pgid is zero, then the PGID of the process specified by pid is made the
-- same as its process ID"
abbrev pub IsGroupFor : State → Row → Row → ℤ → Name → Type 0
IsGroupFor state caller target (pos n) group =
    (NamesTarget state caller target n × (group ≡ target.name))
    ⊎ ((NamesTarget state caller target n → ⊥) × IsSessionGroup state caller n group)
IsGroupFor state caller target (negsuc n) group = ⊥

-- the namespace with the id
abbrev pub IsSpace : State → ℕ → Space → Type 0
IsSpace state id s = IsIn s state.spaces × (s.id ≡ id)

-- the control group with the id
abbrev pub IsControl : State → ℕ → Control → Type 0
IsControl state id c = IsIn c state.controls × (c.id ≡ id)

-- a running thread or a control group is directly in the control group
abbrev pub IsBusy : State → ℕ → Type 0
IsBusy state id =
    ((t : Thread) × IsIn t state.threads × (t.home ≡ id))
    ⊎ ((row : Row) × IsIn row state.rows × (HasLeft state (root_number row.name) → ⊥) × (row.home ≡ id) × (is_live row ≡ true))
    ⊎ ((c : Control) × IsIn c state.controls × (c.parent ≡ Some id))

-- ---- the refusals of each call

-- every number that the namespace could give is taken
abbrev pub HasNoNumber : State → ℕ → Type 0
HasNoNumber state s = IsFull (taken state s) (restart (cursor_of state s)) state.pid_max

-- of a fork into the namespace t: its own number first, then outwards; then the nearest control group first
abbrev pub wants_room : State → Row → ℕ → Option Refusal → Type 0
wants_room state caller t =
    refuse_first (HasNoNumber state) NoNumber (path_up state.spaces t)
    (refuse_first (λ c. is_limited_below state (count state c + 1) c ≡ true) PidsLimit (control_path state.controls caller.home) goes_on)

-- of a fork that may go on: into a new namespace, whose id is the stamp, or into the one for the caller's children
abbrev pub wants_number : State → ℕ → Bool → Row → Option Refusal → Type 0
wants_number state stamp true caller = wants_room (with_space state caller.children_space stamp) caller stamp
wants_number state stamp false caller = wants_room state caller caller.children_space

-- of a fork
abbrev pub forks : State → ℕ → Bool → Row → Option Refusal → Type 0
forks state stamp new_space caller =
    let p = caller.children_space in
    refuse ((new_space ≡ true) × (deepest_space ≤ level state.spaces p)) TooDeep
    (refuse ((new_space ≡ true) × (p ≡ caller.name.space → ⊥)) Elsewhere
    (find_one (IsSpace state p) SpaceFallen (λ s.
    refuse (s.fallen ≡ true) SpaceFallen
    (wants_number state stamp new_space caller))))

-- of a change of the target's group: setpgid(2), "ERRORS"
abbrev pub changes_group : State → Row → ℤ → Row → Option Refusal → Type 0
changes_group state caller pgid target =
    refuse (IsChild caller target × (target.session ≡ caller.session → ⊥)) OtherSession
    (refuse (IsChild caller target × (target.executed ≡ true)) Executed
    (refuse ((IsChild caller target → ⊥) × (target.name ≡ caller.name → ⊥)) NoTask
    (refuse (target.session ≡ target.name) IsLeader
    (find_one (IsGroupFor state caller target pgid) NoGroup (λ group. goes_on)))))

-- of a change of a thread's group. In a state without threads no number names one
abbrev pub wants_leader : State → Row → ℤ → (Option Refusal → Type 0) → Option Refusal → Type 0
wants_leader state caller pid later = refuse (NamesThread state caller pid) BadGroup later

-- a live caller, whose call goes on to later refusals
abbrev pub by_live : State → ℕ → (Row → Option Refusal → Type 0) → Option Refusal → Type 0
by_live state n later = find_one (IsCallingProcess state n) NoCaller later

-- the refusals of each call in their order
abbrev pub verdict : State → ℕ → Call → Option Refusal → Type 0
verdict state stamp (Fork caller new_space) = by_live state caller (λ row. forks state stamp new_space (as_thread state caller row))
verdict state stamp (GetPid caller) = by_live state caller (λ row. goes_on)
verdict state stamp (NsPid caller target) = by_live state caller (λ row.
    find_one (IsNameTo state row target) NoTask (λ name. goes_on))
verdict state stamp (Exec caller) = by_live state caller (λ row. goes_on)
verdict state stamp (Exit caller status) = by_live state caller (λ row. refuse (root_number row.name ≡ 1) RootInit goes_on)
verdict state stamp (Wait caller which) =
    by_live state caller (λ row.
    find_one (λ child. IsIn child state.rows × IsChild row child × IsSelected state row which child) NoChild (λ child. goes_on))
verdict state stamp (GetPpid caller) = by_live state caller (λ row. goes_on)
verdict state stamp (SetPgid caller pid pgid) =
    by_live state caller (λ row.
    refuse ((n : ℕ) × (pgid ≡ negsuc n)) BadGroup
    (find_one (IsTarget state row pid) NoTask (λ target.
    wants_leader state row pid (changes_group state row pgid target))))
verdict state stamp (SetSid caller) =
    by_live state caller (λ row. refuse ((r : Row) × IsIn r state.rows × (r.group ≡ row.name)) IsLeader goes_on)
verdict state stamp (MakeControl parent) =
    find_one (IsControl state parent) NoControl (λ c.
    refuse (deepest_control < length (control_path state.controls parent)) ControlDepth goes_on)
verdict state stamp (RemoveControl id) =
    find_one (IsControl state id) NoControl (λ c.
    find_one (λ parent. c.parent ≡ Some parent) RootControl (λ parent. refuse (IsBusy state id) ControlBusy goes_on))
verdict state stamp (SetLimit id limit) =
    find_one (IsControl state id) NoControl (λ c.
    find_one (λ parent. c.parent ≡ Some parent) RootControl (λ parent.
    refuse ((n : ℕ) × (limit ≡ Some n) × (greatest_limit < n)) BadLimit goes_on))
verdict state stamp (Move task id) =
    find_one (IsProcessAt state task) NoTask (λ row. find_one (IsControl state id) NoControl (λ c. goes_on))
verdict state stamp (Count id) = find_one (IsControl state id) NoControl (λ c. goes_on)
verdict state stamp (GetPgid caller pid) = by_live state caller (λ row. find_one (IsSelfOrTask state row pid) NoTask (λ task. goes_on))
verdict state stamp (GetSid caller pid) = by_live state caller (λ row. find_one (IsSelfOrTask state row pid) NoTask (λ task. goes_on))
verdict state stamp (Next caller kind from) = by_live state caller (λ row. goes_on)
verdict state stamp (Join caller target) =
    by_live state caller (λ row.
    find_one (λ task. IsTaskTo state row target task) NoTask (λ task. refuse (is_live task ≡ false) NoTask goes_on))
verdict state stamp (SetSubreaper caller on) = by_live state caller (λ row. goes_on)

-- the refusals of each call about threads in their order
abbrev pub thread_verdict : State → ThreadCall → Option Refusal → Type 0
thread_verdict state (NewThread caller) =
    by_live state caller (λ row.
    refuse ((as_thread state caller row).children_space ≡ row.name.space → ⊥) Elsewhere
    (wants_room state (as_thread state caller row) row.name.space))
thread_verdict state (Leave caller status) =
    by_live state caller (λ row. refuse ((running state row ≡ 1) × (root_number row.name ≡ 1)) RootInit goes_on)
thread_verdict state (GetTid caller) = by_live state caller (λ row. goes_on)
thread_verdict state (GetTgid caller target) =
    by_live state caller (λ row. find_one (IsTaskTo state row target) NoTask (λ task. goes_on))
thread_verdict state (NextThread caller from) = by_live state caller (λ row. goes_on)

-- the refusal that the reply is, if it is one
abbrev pub refusal_in : Reply → Option Refusal
refusal_in (Refused r) = Some r
refusal_in _ = None

-- a call is refused exactly where a reason holds, by the first one in the order of its refusals
abbrev pub FirstRefusalAnswers : Type 0
FirstRefusalAnswers = (state : State) (stamp : ℕ) (call : Call) → verdict state stamp call (refusal_in (step state stamp call).reply)

-- so is one about threads
abbrev pub FirstThreadRefusalAnswers : Type 0
FirstThreadRefusalAnswers = (state : State) (call : ThreadCall) → thread_verdict state call (refusal_in (thread_step state call).reply)

-- whether the call only asks
abbrev pub is_query : Call → Bool
is_query (GetPid caller) = true
is_query (NsPid caller target) = true
is_query (GetPpid caller) = true
is_query (Count id) = true
is_query (GetPgid caller pid) = true
is_query (GetSid caller pid) = true
is_query (Next caller kind from) = true
is_query _ = false

-- a refused call changes nothing, no cursor either
abbrev pub RefusalChangesNothing : Type 0
RefusalChangesNothing =
    (state : State) (stamp : ℕ) (call : Call) (r : Refusal) → (step state stamp call).reply ≡ Refused r
    → (step state stamp call).state ≡ state

-- a query changes nothing
abbrev pub QueryChangesNothing : Type 0
QueryChangesNothing = (state : State) (stamp : ℕ) (call : Call) → IsTrue (is_query call) → (step state stamp call).state ≡ state

-- a wait that reaps nothing changes nothing
abbrev pub NoneYetChangesNothing : Type 0
NoneYetChangesNothing =
    (state : State) (stamp : ℕ) (call : Call) → (step state stamp call).reply ≡ NoneYet → (step state stamp call).state ≡ state
