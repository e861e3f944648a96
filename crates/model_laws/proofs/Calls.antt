-- What a call comes to: an answer that changes nothing, or one of the changes that a call can make.
use Rattle.model_laws.proofs.Words.{◌≡◌, ℕ, ℤ, Bool, true, false, not, ◌&&◌, ◌||◌, ◌==◌, Option, Some, None, ap, find, length, is_none, nat_lt, nat_le, option_map_or, greatest_limit, Call, Fork, Exec, Exit, Wait, SetPgid, SetSid, MakeControl, RemoveControl, SetLimit, Move, Join, SetSubreaper, ThreadCall, NewThread, Leave, Which, Name, Row, Thread, Control, Reply, Forked, Done, Number, Reaped, NoneYet, ControlMade, State, path_up, level, root_number, number_or_zero, same_name, is_parent, is_live, caller_of, as_thread, process_at, process_numbered, thread_at, running, with_row, draw, control_at, control_path, passed_limit, Outcome, answered, changed, forked, with_space, is_gone, is_init, handed_over, threaded, without_first, without_thread, is_no_leader, fall, least_row, end_of, without_row, ended_children, target_of, group_for, set_group, has_members, start_session, after_exec, with_control, is_busy, without_control, with_limit, with_home, set_children_space, set_thread_space, set_mark, map}

-- each namespace from t to the root has a number to give, and no control group from the caller's home up is at its limit
pub record MayFork (state : State) (caller : Row) (t : ℕ) : Type 0 where
  pub numbers : find (λ s. is_none (draw state s)) (path_up state.spaces t) ≡ None
  pub limits : passed_limit state caller.home ≡ None

-- whether the reply may be a refusal or the answer of a query
abbrev pub is_answer : Reply → Bool
is_answer (Forked child root) = false
is_answer Done = false
is_answer (Reaped child ended) = false
is_answer (ControlMade id) = false
is_answer NoneYet = false
is_answer _ = true

-- which no other reply is
pub no_answer : (a b : Reply) → is_answer a ≡ true → is_answer b ≡ false → a ≡ b → ⊥
no_answer a b answer change same = let e : is_answer a ≡ is_answer b = ap is_answer same in cc

-- what a call comes to, with what it found on the way
pub data Comes (state : State) (stamp : ℕ) : Call → Outcome → Type 0 where
  still : (call : Call) (reply : Reply) → is_answer reply ≡ true → Comes state stamp call (answered state reply)
  born : (n : ℕ) (new_space : Bool) (caller : Row) → new_space ≡ false → caller_of state n ≡ Some caller
      → is_gone state (as_thread state n caller).children_space ≡ false
      → MayFork state (as_thread state n caller) (as_thread state n caller).children_space
      → Comes state stamp (Fork n new_space) (forked state (as_thread state n caller) (as_thread state n caller).children_space)
  born_first : (n : ℕ) (caller : Row) → caller_of state n ≡ Some caller → is_gone state (as_thread state n caller).children_space ≡ false
      → nat_le 32 (level state.spaces (as_thread state n caller).children_space) ≡ false
      → ((as_thread state n caller).children_space == caller.name.space) ≡ true
      → MayFork (with_space state (as_thread state n caller).children_space stamp) (as_thread state n caller) stamp
      → Comes state stamp (Fork n true)
      (forked (with_space state (as_thread state n caller).children_space stamp) (as_thread state n caller) stamp)
  fell : (n status : ℕ) (caller : Row) → caller_of state n ≡ Some caller → (root_number caller.name == 1) ≡ false → is_init state caller ≡ true
      → Comes state stamp (Exit n status) (changed (fall state caller status) Done)
  handed_on : (n status : ℕ) (caller : Row) → caller_of state n ≡ Some caller → is_init state caller ≡ false
      → Comes state stamp (Exit n status) (changed (handed_over state caller status) Done)
  waits : (n : ℕ) (which : Which) (caller : Row) → caller_of state n ≡ Some caller
      → least_row state caller.name.space (ended_children state caller which) ≡ None → Comes state stamp (Wait n which) (answered state NoneYet)
  reaped : (n : ℕ) (which : Which) (caller row : Row) → caller_of state n ≡ Some caller
      → least_row state caller.name.space (ended_children state caller which) ≡ Some row
      → Comes state stamp (Wait n which) (changed (without_row state row)
      (Reaped (number_or_zero state.spaces row.name caller.name.space) (end_of row)))
  grouped : (n : ℕ) (pid pgid : ℤ) (caller target : Row) (group : Name) → caller_of state n ≡ Some caller
      → target_of state caller pid ≡ Some target → is_no_leader state caller pid ≡ false
      → (is_parent caller.name target && not (same_name target.session caller.session)) ≡ false
      → not (is_parent caller.name target || same_name target.name caller.name) ≡ false → group_for state caller target pgid ≡ Some group
      → Comes state stamp (SetPgid n pid pgid) (changed (with_row state target.name (set_group group)) Done)
  led : (n : ℕ) (caller : Row) → caller_of state n ≡ Some caller → has_members state caller.name ≡ false
      → Comes state stamp (SetSid n) (changed (with_row state caller.name start_session)
      (Number (number_or_zero state.spaces caller.name caller.name.space)))
  executed : (n : ℕ) (caller : Row) → caller_of state n ≡ Some caller
      → Comes state stamp (Exec n) (changed (after_exec state n caller.name) Done)
  control_made : (parent : ℕ) (c : Control) → control_at state.controls parent ≡ Some c
      → nat_lt 64 (length (control_path state.controls parent)) ≡ false
      → Comes state stamp (MakeControl parent) (changed (with_control state parent stamp) (ControlMade stamp))
  control_removed : (id parent : ℕ) (c : Control) → control_at state.controls id ≡ Some c → c.parent ≡ Some parent → is_busy state id ≡ false
      → Comes state stamp (RemoveControl id) (changed (without_control state id parent) Done)
  limit_set : (id parent : ℕ) (limit : Option ℕ) (c : Control) → control_at state.controls id ≡ Some c → c.parent ≡ Some parent
      → option_map_or (nat_lt greatest_limit) limit false ≡ false → Comes state stamp (SetLimit id limit) (changed (with_limit state id limit) Done)
  moved : (n id : ℕ) (task : Row) (c : Control) → process_at state n ≡ Some task → control_at state.controls id ≡ Some c
      → Comes state stamp (Move n id) (changed (with_home state task.name id) Done)
  joined : (n target : ℕ) (caller row : Row) → caller_of state n ≡ Some caller
      → process_numbered state caller.name.space target ≡ Some row → is_live row ≡ true → thread_at state n ≡ None
      → Comes state stamp (Join n target) (changed (with_row state caller.name (set_children_space row.name.space)) Done)
  joined_other : (n target : ℕ) (caller row : Row) (t : Thread) → caller_of state n ≡ Some caller
      → process_numbered state caller.name.space target ≡ Some row → is_live row ≡ true → thread_at state n ≡ Some t
      → Comes state stamp (Join n target)
      (changed (record state { threads = map (set_thread_space n row.name.space) state.threads }) Done)
  marked : (n : ℕ) (on : Bool) (caller : Row) → caller_of state n ≡ Some caller
      → Comes state stamp (SetSubreaper n on) (changed (with_row state caller.name (set_mark on)) Done)

-- what a call about threads comes to, likewise
pub data ComesOfThreads (state : State) : ThreadCall → Outcome → Type 0 where
  still_threads : (call : ThreadCall) (reply : Reply) → is_answer reply ≡ true → ComesOfThreads state call (answered state reply)
  thread_made : (n : ℕ) (caller : Row) → caller_of state n ≡ Some caller
      → ((as_thread state n caller).children_space == caller.name.space) ≡ true
      → MayFork state (as_thread state n caller) caller.name.space
      → ComesOfThreads state (NewThread n) (threaded state (as_thread state n caller))
  fell_last : (n status : ℕ) (caller : Row) → caller_of state n ≡ Some caller → (root_number caller.name == 1) ≡ false → is_init state caller ≡ true
      → ComesOfThreads state (Leave n status) (changed (fall state caller status) Done)
  handed_on_last : (n status : ℕ) (caller : Row) → caller_of state n ≡ Some caller → is_init state caller ≡ false
      → ComesOfThreads state (Leave n status) (changed (handed_over state caller status) Done)
  left_first : (n status : ℕ) (caller : Row) → caller_of state n ≡ Some caller → thread_at state n ≡ None
      → (running state caller == 1) ≡ false → ComesOfThreads state (Leave n status) (changed (without_first state caller) Done)
  left_other : (n status : ℕ) (caller : Row) (t : Thread) → caller_of state n ≡ Some caller → thread_at state n ≡ Some t
      → (running state caller == 1) ≡ false → ComesOfThreads state (Leave n status) (changed (without_thread state n) Done)
