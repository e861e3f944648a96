-- Refusals come in their order, and change nothing.
use Rattle.model_laws.proofs.Words.{◌↔◌, ◌≡◌, ℕ, suc, ◌+◌, ◌<◌, ◌≤◌, ℤ, pos, negsuc, max, Bool, true, false, not, ◌&&◌, ◌||◌, ◌==◌, List, [], ◌∷◌, length, Option, Some, None, cond, Decides, refl, sym, ap, ◌∙◌, subst, inl, inr, arith, if◌then◌else◌, find, filter, is_none, nat_lt, nat_le, option_map, IsTrue, ◌⊎◌, option_map_or, option_eq, list_any, eqb-true, eq-eqb, ne_eqb, and_parts, and_from, not-true, not_from_false, ltb-true, lt-ltb, leb-true, le-leb, Decides-eqb, Decides-ltb, Decides-and, Decides-or, Decides-not, Decides-like, not_from_Decides, not-false, cond_both, Call, Fork, GetPid, NsPid, Exec, Exit, Wait, GetPpid, SetPgid, SetSid, MakeControl, RemoveControl, SetLimit, Move, Count, GetPgid, GetSid, Next, Join, SetSubreaper, NewThread, Leave, GetTid, GetTgid, Which, Name, Row, Space, Thread, Reply, Number, Done, Reaped, NoneYet, End, Refused, Control, Refusal, NoCaller, NoTask, NoChild, NoNumber, PidsLimit, SpaceFallen, TooDeep, Elsewhere, BadGroup, OtherSession, IsLeader, NoGroup, Executed, RootInit, NoControl, ControlBusy, RootControl, BadLimit, ControlDepth, deepest_space, deepest_control, greatest_limit, IsIn, least_of, State, space_at, path_up, level, number, root_number, number_or_zero, is_numbered, same_name, is_parent, is_live, caller_of, as_thread, process_at, process_numbered, thread_at, running, taken, restart, cyclic_draw, cursor_of, draw, control_at, control_path, count, is_limited_below, passed_limit, Outcome, answered, changed, for_found, unless_found, refuse_if, fork, forked, no_room, with_space, is_gone, is_init, ended_children, exit, ends, thread, leave, without_thread, without_caller, set_thread_space, set_children_space, with_row, map, get_tid, get_tgid, is_selected, matching, least_row, end_of, without_row, wait, is_negative, target_of, session_group, group_for, has_members, set_group_of, set_pgid, set_sid, self_or_task, numbers_by, get_pid, get_ppid, get_pgid, get_sid, ns_pid, next, is_busy, exec, make_control, remove_control, set_limit, move_task, count_tasks, join, set_subreaper, step, without_first, has_thread, has_left, thread_numbered, task_numbered, ThreadCall, NextThread, thread_step, next_thread, filter_map, is_some, levels_to, is_no_leader, AnyCall, of_table, of_threads}
use Rattle.model_laws.proofs.Ground.{IsIn-filter, IsIn-from_filter, find-Some, find-None, some_passes, list_any-from_one, option_eq-true, is_parent-true, is_parent-from, same_name-true, same_name-refl, is_numbered-true, is_numbered-from, has_thread-true, has_thread-from}
use Rattle.pid_types.specs.declared.call.Which.TheVariants.{Any, Pid, OwnGroup, Group}
use Rattle.model_laws.specs.Draws.{IsCyclicDraw, IsLeastFree}
use Rattle.model_laws.specs.Refusals.{goes_on, refuse, find_one, refuse_first, IsCallingProcess, IsTaskTo, IsSelfOrTask, IsTarget, IsChild, IsSelected, NamesTarget, IsSessionGroup, IsGroupFor, IsSpace, IsControl, IsBusy, HasNoNumber, wants_room, wants_number, verdict, refusal_in, is_query, RefusalChangesNothing, NoneYetChangesNothing, QueryChangesNothing, HasThread, HasLeft, IsFirstThread, IsProcessAt, IsThreadTo, IsNameTo, NamesThread, thread_verdict, FirstThreadRefusalAnswers}
use Rattle.model_laws.specs.WaitLaws.{MayBeReaped}
use Rattle.model_laws.proofs.Draws.{draw_is_least}
use Rattle.model_laws.proofs.Calls.{MayFork, is_answer, Comes, still, born, born_first, thread_made, fell, handed_on, fell_last, handed_on_last, left_first, left_other, waits, reaped, grouped, led, executed, control_made, control_removed, limit_set, moved, joined, joined_other, marked, ComesOfThreads, still_threads}

-- ---- the first that applies

-- what the call can come to
abbrev ComesTo : State → ℕ → AnyCall → Outcome → Type 0
ComesTo state stamp (of_table call) o = Comes state stamp call o
ComesTo state stamp (of_threads call) o = ComesOfThreads state call o

-- an answer, by which nothing changes
unchanged : (state : State) (stamp : ℕ) (call : AnyCall) (reply : Reply) → is_answer reply ≡ true → ComesTo state stamp call (answered state reply)
unchanged state stamp (of_table call) reply answer = still call reply answer
unchanged state stamp (of_threads call) reply answer = still_threads call reply answer

-- the outcome is one that the call can come to, and its reply is judged so
record IsJudged (state : State) (stamp : ℕ) (call : AnyCall) (later : Option Refusal → Type 0) (o : Outcome) : Type 0 where
  comes : ComesTo state stamp call o
  said : later (refusal_in o.reply)

-- what a search finds fits, and where it finds nothing, nothing does
pub record IsFound {A : Type 0} (fits : A → Type 0) (o : Option A) : Type 0 where
  pub some : (a : A) → o ≡ Some a → fits a
  pub none : o ≡ None → (a : A) → fits a → ⊥

-- a search along a list
finds : {A : Type 0} (fits : A → Type 0) (p : A → Bool) (xs : List A) → ((x : A) → IsIn x xs → p x ≡ true → fits x)
    → ((x : A) → fits x → IsIn x xs × (p x ≡ true)) → IsFound fits (find p xs)
finds fits p xs to from = record {
  some = λ x e. let f = find-Some p xs x e in to x f.0 f.1;
  none = λ e x h. let f = from x h in let never : p x ≡ false = find-None p xs e x f.0 in let there : p x ≡ true = f.1 in cc;
}

module _ {state : State} {stamp : ℕ} {call : AnyCall} where
  -- a call that is not refused
  goes : {o : Outcome} → refusal_in o.reply ≡ None → ComesTo state stamp call o → IsJudged state stamp call goes_on o
  goes none comes = record { comes = comes; said = none }

  -- an answer
  says : (reply : Reply) → is_answer reply ≡ true → refusal_in reply ≡ None → IsJudged state stamp call goes_on (answered state reply)
  says reply answer none = goes none (unchanged state stamp call reply answer)

  -- a refusal
  refuses : (r : Refusal) (later : Option Refusal → Type 0) → later (Some r) → IsJudged state stamp call later (answered state (Refused r))
  refuses r later said = record { comes = unchanged state stamp call (Refused r) refl; said = said }

  -- a test tells whether the reason of a refusal holds
  refused_by : {reason : Type 0} {o : Outcome} {later : Option Refusal → Type 0} (b : Bool) (r : Refusal) → Decides b reason
      → (b ≡ false → IsJudged state stamp call later o) → IsJudged state stamp call (refuse reason r later) (refuse_if state b r o)
  refused_by true r d h = refuses r _ (inl (d.0 refl, refl))
  refused_by false r d h = record { comes = (h refl).comes; said = inr (not_from_Decides false d refl, (h refl).said) }

  -- a search finds one that fits, or there is none
  found_by : {A : Type 0} {fits : A → Type 0} {f : A → Outcome} {later : A → Option Refusal → Type 0} (o : Option A) (r : Refusal)
      → IsFound fits o → ((a : A) → o ≡ Some a → IsJudged state stamp call (later a) (f a))
      → IsJudged state stamp call (find_one fits r later) (for_found state o r f)
  found_by None r found h = refuses r _ (inr (found.none refl, refl))
  found_by (Some a) r found h = let j = h a refl in record { comes = j.comes; said = inl (a, found.some a refl, j.said) }

  -- the same of a query
  answered_by : {A : Type 0} {fits : A → Type 0} {later : A → Option Refusal → Type 0} (o : Option A) (r : Refusal) (f : A → Reply)
      → IsFound fits o → ((a : A) → IsJudged state stamp call (later a) (answered state (f a)))
      → IsJudged state stamp call (find_one fits r later) (answered state (option_map_or f o (Refused r)))
  answered_by None r f found h = refuses r _ (inr (found.none refl, refl))
  answered_by (Some a) r f found h = record { comes = (h a).comes; said = inl (a, found.some a refl, (h a).said) }

  -- a search along a list names the first for which the reason holds
  first_by : {reason : ℕ → Type 0} {later : Option Refusal → Type 0} (p : ℕ → Bool) (r : ℕ → Refusal) (xs : List ℕ) (o : Option ℕ → Outcome)
      → ((x : ℕ) → Decides (p x) (reason x)) → ((x : ℕ) → answered state (Refused (r x)) ≡ o (Some x))
      → (find p xs ≡ None → IsJudged state stamp call later (o None))
      → IsJudged state stamp call (refuse_first reason r xs later) (o (find p xs))
  first_by p r [] o tells some none = none refl
  first_by {reason} {later} p r (x ∷ xs) o tells some none = go (first_by p r xs o tells some) (p x) (tells x) none
    where
      go : ((find p xs ≡ None → IsJudged state stamp call later (o None)) → IsJudged state stamp call (refuse_first reason r xs later) (o (find p xs)))
          → (b : Bool) → Decides b (reason x) → (cond b (Some x) (find p xs) ≡ None → IsJudged state stamp call later (o None))
          → IsJudged state stamp call (refuse (reason x) (r x) (refuse_first reason r xs later)) (o (cond b (Some x) (find p xs)))
      go rest true d lost = subst (IsJudged state stamp call _) (some x) (refuses (r x) _ (inl (d.0 refl, refl)))
      go rest false d lost = let j = rest lost in record { comes = j.comes; said = inr (not_from_Decides false d refl, j.said) }

-- ---- what the tests tell, and what the look-ups find

-- a test says what it says
Decides-it : (b : Bool) → Decides b (b ≡ true)
Decides-it b = (λ e. e, λ e. e)

-- a name is the other one
Decides-name : (a b : Name) → Decides (same_name a b) (a ≡ b)
Decides-name a b = (same_name-true a b, same_name-refl a b)

-- a row is a child
Decides-child : (parent row : Row) → Decides (is_parent parent.name row) (IsChild parent row)
Decides-child parent row = (is_parent-true parent.name row, is_parent-from parent.name row)

-- a name has the number in the caller's namespace
Decides-number : (state : State) (caller : Row) (a : Name) (n : ℕ)
    → Decides (is_numbered state.spaces a caller.name.space n) (number state.spaces a caller.name.space ≡ Some n)
Decides-number state caller a n = (is_numbered-true state.spaces a caller.name.space n, is_numbered-from state.spaces a caller.name.space n)

-- some element passes a test
Decides-any : {A : Type 0} (p : A → Bool) (xs : List A) → Decides (list_any p xs) ((x : A) × IsIn x xs × (p x ≡ true))
Decides-any p xs = (some_passes p xs, λ f. list_any-from_one p xs f.0 f.1 f.2)

-- a thread of the process beside its first one has a name that passes the test
Decides-thread : (state : State) (test : Name → Bool) (fits : Name → Type 0) (row : Row) → ((name : Name) → Decides (test name) (fits name))
    → Decides (has_thread state test row) ((t : Thread) × IsIn t state.threads × fits t.name × (t.process ≡ row.name))
Decides-thread state test fits row each = (
  λ h. let t = has_thread-true state test row h in (t.0, t.1, (each t.0.name).0 t.2, t.3),
  λ f. has_thread-from state test row f.0 f.1 ((each f.0.name).1 f.2) f.3,
)

-- a process's first thread has left
pub Decides-left : (state : State) (n : ℕ) → Decides (has_left state n) (HasLeft state n)
Decides-left state n =
    Decides-like _ (λ f. (f.0, f.1, eqb-true (root_number f.0) n f.2)) (λ f. (f.0, f.1, eq-eqb (root_number f.0) n f.2))
    (Decides-any (λ name. root_number name == n) state.left)

-- who calls
live_found : (state : State) (n : ℕ) → IsFound (IsCallingProcess state n) (caller_of state n)
live_found state n = finds (IsCallingProcess state n)
    (λ row. (has_thread state (λ name. root_number name == n) row || (not (has_left state n) && (root_number row.name == n))) && is_live row) state.rows
    (λ row i e. let d = (decides row).0 e in (i, d.1, d.0)) (λ row is. (is.0, (decides row).1 (is.2, is.1)))
  where
    decides : (row : Row) → Decides ((has_thread state (λ name. root_number name == n) row || (not (has_left state n) && (root_number row.name == n))) && is_live row)
        ((HasThread state n row ⊎ ((HasLeft state n → ⊥) × IsFirstThread n row)) × (is_live row ≡ true))
    decides row = Decides-and _ _ (Decides-or _ _ (Decides-thread state (λ name. root_number name == n) (λ name. root_number name ≡ n) row (λ name. Decides-eqb (root_number name) n))
        (Decides-and _ _ (Decides-not _ (Decides-left state n)) (Decides-eqb (root_number row.name) n))) (Decides-it (is_live row))

-- the process that moves
process_found : (state : State) (n : ℕ) → IsFound (IsProcessAt state n) (process_at state n)
process_found state n = finds (IsProcessAt state n)
    (λ row. (has_thread state (λ name. root_number name == n) row || (root_number row.name == n)) && is_live row) state.rows
    (λ row i e. let d = (decides row).0 e in (i, d.1, d.0)) (λ row is. (is.0, (decides row).1 (is.2, is.1)))
  where
    decides : (row : Row) → Decides ((has_thread state (λ name. root_number name == n) row || (root_number row.name == n)) && is_live row)
        ((HasThread state n row ⊎ IsFirstThread n row) × (is_live row ≡ true))
    decides row = Decides-and _ _ (Decides-or _ _ (Decides-thread state (λ name. root_number name == n) (λ name. root_number name ≡ n) row (λ name. Decides-eqb (root_number name) n))
        (Decides-eqb (root_number row.name) n)) (Decides-it (is_live row))

-- the process of the task with the number
pub task_found : (state : State) (caller : Row) (n : ℕ) → IsFound (IsTaskTo state caller n) (process_numbered state caller.name.space n)
unfolding process_numbered
task_found state caller n = finds (IsTaskTo state caller n)
    (λ row. has_thread state (λ name. is_numbered state.spaces name caller.name.space n) row || is_numbered state.spaces row.name caller.name.space n) state.rows
    (λ row i e. (i, (decides row).0 e)) (λ row is. (is.0, (decides row).1 is.1))
  where
    decides : (row : Row) → Decides (has_thread state (λ name. is_numbered state.spaces name caller.name.space n) row || is_numbered state.spaces row.name caller.name.space n)
        (((t : Thread) × IsThreadTo state caller n t × (t.process ≡ row.name)) ⊎ (number state.spaces row.name caller.name.space ≡ Some n))
    decides row = Decides-or _ _
        (Decides-like _ (λ f. (f.0, (f.1, f.2), f.3)) (λ f. (f.0, f.1.0, f.1.1, f.2))
        (Decides-thread state (λ name. is_numbered state.spaces name caller.name.space n) (λ name. number state.spaces name caller.name.space ≡ Some n) row (λ name.
        Decides-number state caller name n)))
        (Decides-number state caller row.name n)

-- the thread with the number
thread_found : (state : State) (caller : Row) (n : ℕ) → IsFound (IsThreadTo state caller n) (thread_numbered state caller.name.space n)
thread_found state caller n = finds (IsThreadTo state caller n) (λ t. is_numbered state.spaces t.name caller.name.space n) state.threads
    (λ t i e. (i, (Decides-number state caller t.name n).0 e)) (λ t is. (is.0, (Decides-number state caller t.name n).1 is.1))

-- the process whose own name has the number
first_found : (state : State) (caller : Row) (n : ℕ)
    → IsFound (λ row. IsIn row state.rows × (number state.spaces row.name caller.name.space ≡ Some n)) (task_numbered state caller.name.space n)
unfolding task_numbered
first_found state caller n = finds _ (λ row. is_numbered state.spaces row.name caller.name.space n) state.rows
    (λ row i e. (i, (Decides-number state caller row.name n).0 e)) (λ row is. (is.0, (Decides-number state caller row.name n).1 is.1))

-- something is found
Decides-found : {A : Type 0} {fits : A → Type 0} (o : Option A) → IsFound fits o → Decides (is_some o) ((a : A) × fits a)
Decides-found None found = (λ e. absurd (cc), λ f. absurd (found.none refl f.0 f.1))
Decides-found (Some a) found = (λ e. (a, found.some a refl), λ f. refl)

-- a number names a thread that is no process's first one
Decides-no_leader : (state : State) (caller : Row) (pid : ℤ) → Decides (is_no_leader state caller pid) (NamesThread state caller pid)
Decides-no_leader state caller (pos n) = Decides-and _ _ (Decides-found _ (thread_found state caller n)) (Decides-not _ (Decides-eqb n 0))
Decides-no_leader state caller (negsuc n) = (λ e. absurd (cc), λ never. absurd never)

-- the one thing where a reason holds, and else what a search finds
found_or : {A : Type 0} (reason : Type 0) (b : Bool) (x : A) (o : Option A) (fits : A → Type 0) → Decides b reason → IsFound fits o
    → IsFound (λ y. (reason × (y ≡ x)) ⊎ ((reason → ⊥) × fits y)) (if b then Some x else o)
found_or reason true x o fits d f = record { some = λ y e. grind (arith, d.0); none = λ e y t. cc }
found_or reason false x o fits d f = record { some = λ y e. grind (arith, f.some y, d.1); none = λ e y t. grind (arith, f.none e y, d.1) }

-- where 0 is the caller
self_found : (state : State) (caller : Row) (n : ℕ) → IsFound (IsSelfOrTask state caller n) (self_or_task state caller n)
self_found state caller n =
    found_or (n ≡ 0) (n == 0) caller (process_numbered state caller.name.space n) (IsTaskTo state caller n) (Decides-eqb n 0) (task_found state caller n)

-- whom setpgid names
pub target_found : (state : State) (caller : Row) (pid : ℤ) → IsFound (IsTarget state caller pid) (target_of state caller pid)
target_found state caller (pos n) = let f = self_found state caller n in record { some = f.some; none = f.none }
target_found state caller (negsuc n) = record { some = λ row e. cc; none = λ e row t. t }

-- a group of the caller's session
session_found : (state : State) (caller : Row) (n : ℕ) → IsFound (IsSessionGroup state caller n) (session_group state caller n)
unfolding session_group
session_found state caller n = go (find p state.rows) (finds fits p state.rows
    (λ row i e. let t = and_parts (same_name row.session caller.session) (is_numbered state.spaces row.group caller.name.space n) e in
    (i, same_name-true row.session caller.session t.0, (Decides-number state caller row.group n).0 t.1))
    (λ row t. (t.0, and_from _ _ (same_name-refl row.session caller.session t.1) ((Decides-number state caller row.group n).1 t.2))))
  where
    p : Row → Bool
    p row = same_name row.session caller.session && is_numbered state.spaces row.group caller.name.space n

    fits : Row → Type 0
    fits row = IsIn row state.rows × (row.session ≡ caller.session) × (number state.spaces row.group caller.name.space ≡ Some n)

    go : (o : Option Row) → IsFound fits o → IsFound (IsSessionGroup state caller n) (option_map (λ (row : Row). row.group) o)
    go None f = record { some = λ group e. absurd (cc); none = λ e group t. f.none refl t.0 (t.1, t.2, ap (λ (a : Name). number state.spaces a caller.name.space) t.3 ∙ t.4) }
    go (Some row) f = record {
      some = λ group e. let t = f.some row refl in let same : row.group ≡ group = cc in (row, t.0, t.1, same, rw same at t.2);
      none = λ e group t. cc;
    }

-- the group that setpgid finds is one for the target
pub group_found : (state : State) (caller target : Row) (pgid : ℤ)
    → IsFound (IsGroupFor state caller target pgid) (group_for state caller target pgid)
group_found state caller target (negsuc n) = record { some = λ group e. cc; none = λ e group t. t }
group_found state caller target (pos n) =
    found_or (NamesTarget state caller target n) ((n == 0) || is_numbered state.spaces target.name caller.name.space n) target.name
    (session_group state caller n) (IsSessionGroup state caller n)
    (Decides-or (n == 0) (is_numbered state.spaces target.name caller.name.space n) (Decides-eqb n 0)
    (Decides-number state caller target.name n)) (session_found state caller n)

-- the control group
control_found : (state : State) (id : ℕ) → IsFound (IsControl state id) (control_at state.controls id)
control_found state id =
    finds (IsControl state id) (λ c. c.id == id) state.controls (λ c i e. (i, eqb-true c.id id e)) (λ c t. (t.0, eq-eqb c.id id t.1))

-- its parent, which the root has not
parent_found : (c : Control) → IsFound (λ parent. c.parent ≡ Some parent) c.parent
parent_found c = record {
  some = λ parent e. e;
  none = λ none parent some. (let n : c.parent ≡ None = none in let s : c.parent ≡ Some parent = some in cc);
}

-- a child that the wait selects
pub Decides-selected : (state : State) (caller : Row) (which : Which) (row : Row)
    → Decides (is_selected state caller which row) (IsSelected state caller which row)
Decides-selected state caller Any row = (λ h. tt, λ h. refl)
Decides-selected state caller (Pid n) row = Decides-number state caller row.name n
Decides-selected state caller OwnGroup row = Decides-name row.group caller.group
Decides-selected state caller (Group n) row = Decides-number state caller row.group n

-- the children that a wait selects are those that may be reaped
pub may-match : (state : State) (caller : Row) (which : Which) (row : Row) → IsIn row (matching state caller which) ↔ MayBeReaped state caller which row
unfolding matching
may-match state caller which row = (
  λ i.
      let f = IsIn-from_filter (λ r. is_parent caller.name r && is_selected state caller which r) row state.rows i in
      let t = and_parts (is_parent caller.name row) (is_selected state caller which row) f.1 in
      (f.0, is_parent-true caller.name row t.0, (Decides-selected state caller which row).0 t.1),
  λ may. IsIn-filter (λ r. is_parent caller.name r && is_selected state caller which r) row state.rows may.0
      (and_from _ _ (is_parent-from caller.name row may.1) ((Decides-selected state caller which row).1 may.2)),
)

-- a group below 0
Decides-negative : (pgid : ℤ) → Decides (is_negative pgid) ((n : ℕ) × (pgid ≡ negsuc n))
Decides-negative (pos n) = (λ e. absurd (cc), λ f. let g : pos n ≡ negsuc f.0 = f.1 in cc)
Decides-negative (negsuc n) = (λ e. (n, refl), λ f. refl)

-- a group that some task is in
pub Decides-members : (state : State) (group : Name) → Decides (has_members state group) ((r : Row) × IsIn r state.rows × (r.group ≡ group))
Decides-members state group =
    Decides-like (has_members state group) (λ f. (f.0, f.1, same_name-true f.0.group group f.2)) (λ f. (f.0, f.1, same_name-refl f.0.group group f.2))
    (Decides-any (λ row. same_name row.group group) state.rows)

-- a control group that is busy
pub Decides-busy : (state : State) (id : ℕ) → Decides (is_busy state id) (IsBusy state id)
unfolding is_busy
Decides-busy state id =
    Decides-or (list_any (λ t. t.home == id) state.threads) _
    (Decides-like _ (λ f. (f.0, f.1, eqb-true f.0.home id f.2)) (λ f. (f.0, f.1, eq-eqb f.0.home id f.2))
    (Decides-any (λ (t : Thread). t.home == id) state.threads))
    (Decides-or (list_any (λ row. not (has_left state (root_number row.name)) && ((row.home == id) && is_live row)) state.rows)
    (list_any (λ c. option_eq ◌==◌ c.parent (Some id)) state.controls)
    (Decides-like _ (λ f. let d = (decides f.0).0 f.2 in (f.0, f.1, d.0, d.1.0, d.1.1)) (λ f. (f.0, f.1, (decides f.0).1 (f.2, (f.3, f.4))))
    (Decides-any (λ (row : Row). not (has_left state (root_number row.name)) && ((row.home == id) && is_live row)) state.rows))
    (Decides-like _ (λ f. (f.0, f.1, option_eq-true ◌==◌ eqb-true f.0.parent id f.2)) (λ f. (f.0, f.1, rw f.2 (eq-eqb id id refl)))
    (Decides-any (λ (c : Control). option_eq ◌==◌ c.parent (Some id)) state.controls)))
  where
    decides : (row : Row) → Decides (not (has_left state (root_number row.name)) && ((row.home == id) && is_live row))
        ((HasLeft state (root_number row.name) → ⊥) × ((row.home ≡ id) × (is_live row ≡ true)))
    decides row = Decides-and _ _ (Decides-not _ (Decides-left state (root_number row.name))) (Decides-and _ _ (Decides-eqb row.home id) (Decides-it (is_live row)))

-- a limit that is too great
pub Decides-limit : (limit : Option ℕ) → Decides (option_map_or (nat_lt greatest_limit) limit false) ((n : ℕ) × (limit ≡ Some n) × (greatest_limit < n))
Decides-limit None = (λ e. absurd (cc), λ f. let g : None ≡ Some f.0 = f.1 in cc)
Decides-limit (Some m) = (
  λ e. (m, refl, ltb-true greatest_limit m e),
  λ f. let same : m ≡ f.0 = (let g : Some m ≡ Some f.0 = f.1 in cc) in lt-ltb greatest_limit m (omega (arith, f.2)),
)

-- a namespace that gives no number
Decides-no_number : (state : State) (s : ℕ) → Decides (is_none (draw state s)) (HasNoNumber state s)
unfolding draw
Decides-no_number state s =
    go (cyclic_draw state.pid_max (cursor_of state s) (taken state s)) (draw_is_least state.pid_max (cursor_of state s) (taken state s))
  where
    low : ℕ
    low = restart (cursor_of state s)

    from : (n least : ℕ) → low ≤ least → IsLeastFree (taken state s) least state.pid_max n → HasNoNumber state s → ⊥
    from n least l is full = grind (arith, full n, is.from, is.below, is.free)

    go : (o : Option ℕ) → IsCyclicDraw state.pid_max (cursor_of state s) (taken state s) o → Decides (is_none o) (HasNoNumber state s)
    go None d = (λ e. d, λ h. refl)
    go (Some n) (inl is) = (λ e. absurd (cc), λ full. absurd (from n (max (cursor_of state s) low) (omega arith) is full))
    go (Some n) (inr is) = (λ e. absurd (cc), λ full. absurd (from n low (omega arith) is.1 full))

-- ---- each call

module _ {stamp : ℕ} {call : AnyCall} where
  -- of a new task: numbers, then limits
  first_room : (old state : State) (caller : Row) (t : ℕ) (o : Outcome) → (MayFork state caller t → ComesTo old stamp call o)
      → refusal_in o.reply ≡ None → IsJudged old stamp call (wants_room state caller t) (unless_found old (no_room state caller t) (λ r. r) o)
  unfolding no_room passed_limit
  first_room old state caller t o made none =
      first_by (λ s. is_none (draw state s)) NoNumber (path_up state.spaces t)
      (λ x. unless_found old (option_map_or (λ s. Some (NoNumber s)) x (option_map PidsLimit (passed_limit state caller.home))) (λ r. r) o)
      (Decides-no_number state) (λ s. refl) (λ numbers.
      first_by (λ c. is_limited_below state (count state c + 1) c) PidsLimit (control_path state.controls caller.home)
      (λ x. unless_found old (option_map PidsLimit x) (λ r. r) o) (λ c. Decides-it _) (λ c. refl) (λ limits.
      goes none (made (record { numbers = numbers; limits = limits }))))

  -- the namespace that a fork goes into is there, and stands
  first_space : (state : State) (p : ℕ) (o : Outcome) (later : Option Refusal → Type 0) → (is_gone state p ≡ false → IsJudged state stamp call later o)
      → IsJudged state stamp call (find_one (IsSpace state p) SpaceFallen (λ s. refuse (s.fallen ≡ true) SpaceFallen later))
      (refuse_if state (is_gone state p) SpaceFallen o)
  first_space state p o later =
      go (space_at state.spaces p) (finds (IsSpace state p) (λ s. s.id == p) state.spaces (λ s i e. (i, eqb-true s.id p e)) (λ s t. (t.0, eq-eqb s.id p t.1)))
    where
      go : (x : Option Space) → IsFound (IsSpace state p) x → (option_map_or (λ t. t.fallen) x true ≡ false → IsJudged state stamp call later o)
          → IsJudged state stamp call (find_one (IsSpace state p) SpaceFallen (λ s. refuse (s.fallen ≡ true) SpaceFallen later))
          (refuse_if state (option_map_or (λ t. t.fallen) x true) SpaceFallen o)
      go None f h = refuses SpaceFallen _ (inr (f.none refl, refl))
      go (Some s) f h = let j = refused_by s.fallen SpaceFallen (Decides-it s.fallen) h in record { comes = j.comes; said = inl (s, f.some s refl, j.said) }

-- each call is judged so
judged : (state : State) (stamp : ℕ) (call : Call) → IsJudged state stamp (of_table call) (verdict state stamp call) (step state stamp call)
unfolding step fork exec exit wait set_pgid set_group_of set_sid make_control remove_control set_limit move_task count_tasks join set_subreaper get_pid get_ppid get_pgid get_sid ns_pid next
judged state stamp (Fork n new_space) = found_by _ NoCaller (live_found state n) (λ caller found.
    refused_by _ TooDeep (Decides-and new_space _ (Decides-it _) (leb-true deepest_space _, le-leb deepest_space _)) (λ shallow.
    refused_by _ Elsewhere (Decides-and new_space _ (Decides-it _) (Decides-not _ (Decides-eqb (as_thread state n caller).children_space caller.name.space))) (λ here.
    first_space state (as_thread state n caller).children_space _ (wants_number state stamp new_space (as_thread state n caller)) (λ stands. room caller found stands new_space shallow here))))
  where
    room : (caller : Row) → caller_of state n ≡ Some caller → is_gone state (as_thread state n caller).children_space ≡ false → (b : Bool)
        → (b && nat_le deepest_space (level state.spaces (as_thread state n caller).children_space)) ≡ false
        → (b && not ((as_thread state n caller).children_space == caller.name.space)) ≡ false
        → IsJudged state stamp (of_table (Fork n b)) (wants_number state stamp b (as_thread state n caller))
        (let planned = if b then with_space state (as_thread state n caller).children_space stamp else state in
        let t = if b then stamp else (as_thread state n caller).children_space in
        unless_found state (no_room planned (as_thread state n caller) t) (λ r. r) (forked planned (as_thread state n caller) t))
    room caller found stands true shallow here =
        first_room state (with_space state (as_thread state n caller).children_space stamp) (as_thread state n caller) stamp _ (λ may.
        born_first n caller found stands shallow (not-false _ here) may) refl
    room caller found stands false shallow here =
        first_room state state (as_thread state n caller) (as_thread state n caller).children_space _ (λ may. born n false caller refl found stands may) refl
judged state stamp (GetPid n) = answered_by _ NoCaller _ (live_found state n) (λ row. says _ refl refl)
judged state stamp (NsPid n target) =
    answered_by _ NoCaller _ (live_found state n) (λ row.
    named row (thread_numbered state row.name.space target) (task_numbered state row.name.space target) (thread_found state row target) (first_found state row target))
  where
    named : (caller : Row) (t : Option Thread) (o : Option Row) → IsFound (IsThreadTo state caller target) t
        → IsFound (λ row. IsIn row state.rows × (number state.spaces row.name caller.name.space ≡ Some target)) o
        → IsJudged state stamp (of_table (NsPid n target)) (find_one (IsNameTo state caller target) NoTask (λ name. goes_on))
        (answered state (option_map_or (λ (t : Thread). levels_to state caller t.name) t (option_map_or (λ (row : Row). levels_to state caller row.name) o (Refused NoTask))))
    named caller (Some t) o threads firsts =
        let j = says {stamp = stamp} {call = of_table (NsPid n target)} (levels_to state caller t.name) refl refl in
        record { comes = j.comes; said = inl (t.name, inl (t, threads.some t refl, refl), j.said) }
    named caller None (Some row) threads firsts =
        let j = says {stamp = stamp} {call = of_table (NsPid n target)} (levels_to state caller row.name) refl refl in
        let f = firsts.some row refl in
        record { comes = j.comes; said = inl (row.name, inr (row, f.0, f.1, refl), j.said) }
    named caller None None threads firsts = refuses NoTask _ (inr (
      λ name is. elim is [
        | inl t ↦ threads.none refl t.0 t.1
        | inr r ↦ firsts.none refl r.0 (r.1, r.2)
      ],
      refl,
    ))
judged state stamp (Exec n) = found_by _ NoCaller (live_found state n) (λ row found. goes refl (executed n row found))
judged state stamp (Exit n status) = found_by _ NoCaller (live_found state n) (λ row found.
    refused_by _ RootInit (Decides-eqb (root_number row.name) 1) (λ deep. cond_both (is_init state row) _ _ (IsJudged state stamp (of_table (Exit n status)) goes_on)
    (λ e. goes refl (fell n status row found deep e)) (λ e. goes refl (handed_on n status row found e))))
judged state stamp (Wait n which) = found_by _ NoCaller (live_found state n) (λ row found. go row found (matching state row which) refl)
  where
    reaps : (caller : Row) → caller_of state n ≡ Some caller → (o : Option Row) → least_row state caller.name.space (ended_children state caller which) ≡ o
        → IsJudged state stamp (of_table (Wait n which)) goes_on
        (option_map_or (λ row. changed (without_row state row) (Reaped (number_or_zero state.spaces row.name caller.name.space) (end_of row))) o
        (answered state NoneYet))
    reaps caller found None e = goes refl (waits n which caller found e)
    reaps caller found (Some row) e = goes refl (reaped n which caller row found e)

    go : (caller : Row) → caller_of state n ≡ Some caller → (kept : List Row) → matching state caller which ≡ kept
        → IsJudged state stamp (of_table (Wait n which)) (find_one (MayBeReaped state caller which) NoChild (λ child. goes_on))
        (refuse_if state (length kept == 0) NoChild
        (option_map_or (λ row. changed (without_row state row) (Reaped (number_or_zero state.spaces row.name caller.name.space) (end_of row)))
        (least_row state caller.name.space (ended_children state caller which)) (answered state NoneYet)))
    go caller found [] e = refuses NoChild _ (inr (λ child may. elim (subst (IsIn child) e ((may-match state caller which child).1 may)) [ ], refl))
    go caller found (child ∷ kept) e =
        let f = (may-match state caller which child).0 (subst (IsIn child) (sym e) (inl refl)) in
        let some : (length (child ∷ kept) == 0) ≡ false = ne_eqb (suc (length kept)) 0 (λ z. omega arith) in
        let j = reaps caller found (least_row state caller.name.space (ended_children state caller which)) refl in
        rw some (record { comes = j.comes; said = inl (child, f, j.said) })
judged state stamp (GetPpid n) = answered_by _ NoCaller _ (live_found state n) (λ row. says _ refl refl)
judged state stamp (SetPgid n pid pgid) = found_by _ NoCaller (live_found state n) (λ row found.
    refused_by _ BadGroup (Decides-negative pgid) (λ good. found_by _ NoTask (target_found state row pid) (λ target aimed.
    refused_by _ BadGroup (Decides-no_leader state row pid) (λ first.
    refused_by _ OtherSession (Decides-and _ _ (Decides-child row target) (Decides-not _ (Decides-name target.session row.session))) (λ same.
    refused_by _ Executed (Decides-and _ _ (Decides-child row target) (Decides-it _)) (λ fresh.
    refused_by _ NoTask (Decides-like _ (λ h. (λ c. h (inl c), λ s. h (inr s))) (λ h u. elim u [ inl c ↦ h.0 c | inr s ↦ h.1 s ])
    (Decides-not _ (Decides-or _ _ (Decides-child row target) (Decides-name target.name row.name)))) (λ own.
    refused_by _ IsLeader (Decides-name target.session target.name) (λ member. found_by _ NoGroup (group_found state row target pgid) (λ group there.
    goes refl (grouped n pid pgid row target group found aimed first same own there))))))))))
judged state stamp (SetSid n) = found_by _ NoCaller (live_found state n) (λ row found.
    refused_by _ IsLeader (Decides-members state row.name) (λ none. goes refl (led n row found none)))
judged state stamp (MakeControl parent) = found_by _ NoControl (control_found state parent) (λ c found.
    refused_by _ ControlDepth (Decides-ltb deepest_control _) (λ shallow. goes refl (control_made parent c found shallow)))
judged state stamp (RemoveControl id) = found_by _ NoControl (control_found state id) (λ c found. found_by _ RootControl (parent_found c) (λ parent under.
    refused_by _ ControlBusy (Decides-busy state id) (λ idle. goes refl (control_removed id parent c found under idle))))
judged state stamp (SetLimit id limit) = found_by _ NoControl (control_found state id) (λ c found. found_by _ RootControl (parent_found c) (λ parent under.
    refused_by _ BadLimit (Decides-limit limit) (λ good. goes refl (limit_set id parent limit c found under good))))
judged state stamp (Move n id) =
    found_by _ NoTask (process_found state n) (λ row found. found_by _ NoControl (control_found state id) (λ c there.
    goes refl (moved n id row c found there)))
judged state stamp (Count id) = found_by _ NoControl (control_found state id) (λ c found. says _ refl refl)
judged state stamp (GetPgid n pid) =
    answered_by _ NoCaller _ (live_found state n) (λ row. answered_by _ NoTask _ (self_found state row pid) (λ task. says _ refl refl))
judged state stamp (GetSid n pid) =
    answered_by _ NoCaller _ (live_found state n) (λ row. answered_by _ NoTask _ (self_found state row pid) (λ task. says _ refl refl))
judged state stamp (Next n kind from) =
    answered_by _ NoCaller _ (live_found state n) (λ row. ends (least_of (filter (nat_le from) (numbers_by state kind row.name.space))))
  where
    ends : (o : Option ℕ) → IsJudged state stamp (of_table (Next n kind from)) goes_on (answered state (option_map_or Number o End))
    ends None = says _ refl refl
    ends (Some m) = says _ refl refl
judged state stamp (Join n target) = found_by _ NoCaller (live_found state n) (λ row found. found_by _ NoTask (task_found state row target) (λ task there.
    refused_by _ NoTask (not-true _, not_from_false _) (λ lives. goes refl (into row task found there (not-false _ lives) (thread_at state n) refl))))
  where
    into : (caller row : Row) → caller_of state n ≡ Some caller → process_numbered state caller.name.space target ≡ Some row → is_live row ≡ true
        → (o : Option Thread) → thread_at state n ≡ o
        → Comes state stamp (Join n target) (changed (option_map_or (λ t. record state { threads = map (set_thread_space n row.name.space) state.threads }) o
        (with_row state caller.name (set_children_space row.name.space))) Done)
    into caller row found there live None e = joined n target caller row found there live e
    into caller row found there live (Some t) e = joined_other n target caller row t found there live e
judged state stamp (SetSubreaper n on) = found_by _ NoCaller (live_found state n) (λ row found. goes refl (marked n on row found))

-- and each about threads
thread_judged : (state : State) (stamp : ℕ) (call : ThreadCall) → IsJudged state stamp (of_threads call) (thread_verdict state call) (thread_step state call)
unfolding thread_step thread leave get_tid get_tgid next_thread
thread_judged state stamp (NewThread n) = found_by _ NoCaller (live_found state n) (λ caller found.
    refused_by _ Elsewhere (Decides-not _ (Decides-eqb (as_thread state n caller).children_space caller.name.space)) (λ here.
    first_room state state (as_thread state n caller) caller.name.space _ (λ may. thread_made n caller found (not-false _ here) may) refl))
thread_judged state stamp (Leave n status) = found_by _ NoCaller (live_found state n) (λ caller found. go caller found (running state caller == 1) refl)
  where
    alone : (caller : Row) → caller_of state n ≡ Some caller → (running state caller == 1) ≡ false → (o : Option Thread) → thread_at state n ≡ o
        → ComesOfThreads state (Leave n status) (changed (option_map_or (λ t. without_thread state n) o (without_first state caller)) Done)
    alone caller found more None e = left_first n status caller found e more
    alone caller found more (Some t) e = left_other n status caller t found e more

    go : (caller : Row) → caller_of state n ≡ Some caller → (b : Bool) → (running state caller == 1) ≡ b
        → IsJudged state stamp (of_threads (Leave n status)) (refuse ((running state caller ≡ 1) × (root_number caller.name ≡ 1)) RootInit goes_on)
        (if b then ends state status caller else changed (without_caller state n caller) Done)
    go caller found true last =
        refused_by _ RootInit (Decides-like _ (λ e. (eqb-true (running state caller) 1 last, e)) (λ h. h.1) (Decides-eqb (root_number caller.name) 1)) (λ deep.
        cond_both (is_init state caller) _ _ (IsJudged state stamp (of_threads (Leave n status)) goes_on)
        (λ e. goes refl (fell_last n status caller found deep e)) (λ e. goes refl (handed_on_last n status caller found e)))
    go caller found false more = record {
      comes = alone caller found more (thread_at state n) refl;
      said = inr (λ h. (let yes : (running state caller == 1) ≡ true = eq-eqb (running state caller) 1 h.0 in let no : (running state caller == 1) ≡ false = more in cc), refl);
    }
thread_judged state stamp (GetTid n) = answered_by _ NoCaller _ (live_found state n) (λ row. says _ refl refl)
thread_judged state stamp (GetTgid n target) =
    answered_by _ NoCaller _ (live_found state n) (λ row. answered_by _ NoTask _ (task_found state row target) (λ task. says _ refl refl))
thread_judged state stamp (NextThread n from) = answered_by _ NoCaller _ (live_found state n) (λ row.
    told (least_of (filter (nat_le from) (filter_map (λ t. number state.spaces t.name row.name.space) state.threads))))
  where
    told : (o : Option ℕ) → IsJudged state stamp (of_threads (NextThread n from)) goes_on (answered state (option_map_or Number o End))
    told None = says _ refl refl
    told (Some m) = says _ refl refl

-- each call comes to one of the outcomes
pub step_comes : (state : State) (stamp : ℕ) (call : Call) → Comes state stamp call (step state stamp call)
step_comes state stamp call = (judged state stamp call).comes

-- a call is refused exactly where a reason holds, by the first one
pub first_step : (state : State) (stamp : ℕ) (call : Call) → verdict state stamp call (refusal_in (step state stamp call).reply)
first_step state stamp call = (judged state stamp call).said

-- so it is of calls about threads
pub thread_step_comes : (state : State) (call : ThreadCall) → ComesOfThreads state call (thread_step state call)
thread_step_comes state call = (thread_judged state 0 call).comes

pub first_thread_step : FirstThreadRefusalAnswers
first_thread_step state call = (thread_judged state 0 call).said

-- ---- nothing changes

-- a refused call leaves the state as it was
pub refusal_changes_nothing : RefusalChangesNothing
refusal_changes_nothing state stamp call r = go call _ (step_comes state stamp call)
  where
    go : (call : Call) (o : Outcome) → Comes state stamp call o → o.reply ≡ Refused r → o.state ≡ state
    go call o (still _ reply answer) h = refl
    go call o _ h = absurd (cc)

-- so does a wait that reaps nothing
pub none_yet_changes_nothing : NoneYetChangesNothing
none_yet_changes_nothing state stamp call = go call _ (step_comes state stamp call)
  where
    go : (call : Call) (o : Outcome) → Comes state stamp call o → o.reply ≡ NoneYet → o.state ≡ state
    go call o (still _ reply answer) h = refl
    go call o (waits n which caller found none) h = refl
    go call o _ h = absurd (cc)

-- and a query
pub query_changes_nothing : QueryChangesNothing
query_changes_nothing state stamp call = go call _ (step_comes state stamp call)
  where
    go : (call : Call) (o : Outcome) → Comes state stamp call o → IsTrue (is_query call) → o.state ≡ state
    go call o (still _ reply answer) query = refl
    go call o _ query = absurd (cc)
