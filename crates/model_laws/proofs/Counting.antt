-- What changes a control group's count.
use Rattle.model_laws.proofs.Words.{Exec, ◌≡◌, ℕ, ◌+◌, ◌<◌, Bool, true, false, not, ◌&&◌, ◌==◌, List, [], ◌∷◌, map, length, Some, refl, sym, ap, ◌∙◌, inl, inr, arith, filter, if◌then◌else◌, option_map_or, not-true, eqb-true, eqb-false, not_from_false, false_from_ne_true, cond_both, same_from_decides, Call, Fork, NewThread, Leave, Exit, Wait, Move, Name, Row, Thread, Exited, NoCaller, None, ◌++◌, ◌||◌, eq-eqb, not-false, and_parts, or_parts, cases_Bool, subst, is_thread_of, running, thread_at, caller_of, as_thread, threaded, without_thread, without_caller, leave, ends, changed, for_found, step, exec, after_exec, handed_over, with_home, set_thread_home, set_thread_space, Control, Forked, Done, Reaped, contains, State, root_number, same_name, is_live, number_or_zero, on_row, with_row, control_at, control_path, count, is_below, Outcome, sweep, with_space, is_init, goes_in_fall, row_after_exit, rows_after_exit, row_after_fall, rows_after_fall, new_parent, fall, without_row, set_group, start_session, set_executed, with_control, is_busy, rehome, without_control, limited, with_limit, set_home, set_children_space, set_mark, IsIn, IsRising, IsTreeOfControls, IsSound, thread_step, GetTid, GetTgid, NextThread, has_left, is_of, without_threads, without_first}
use Rattle.model_laws.proofs.Ground.{IsIn-map, IsIn-from_filter, IsIn-from_contains, contains-from_IsIn, filter-same, filter-all, on_row-keeps, same_name-true, same_name-refl, control_to_root, control_at-Some, caller_of-Some, process_at-Some, length-IsIn, IsIn-filter, option_both}
use Rattle.model_laws.specs.CountLaws.{one_where, may_change_counts, is_alone, homes_running, ForkCountsOne, ThreadCountsOne, LeavingCountsOneLess, EndCountsThreads, ExecCountsOne, ReapingCountsOneLess, FallCountsTaken, MoveCountsBoth, NothingElseCounts, ThreadQueriesCountNothing}
use Rattle.model_laws.proofs.Refusals.{step_comes, thread_step_comes}
use Rattle.model_laws.proofs.Calls.{Comes, still, born, born_first, thread_made, fell, handed_on, waits, reaped, grouped, led, executed, control_made, control_removed, limit_set, moved, joined, joined_other, marked, no_answer, ComesOfThreads, still_threads}
use Rattle.model_laws.proofs.EndsKept.{reaped_row}
use Rattle.model_laws.proofs.ControlsKept.{no_thread, path_old, others, other_path, no_child, control_path-map, path_of_parent, path_of_child}
use Rattle.model_laws.proofs.Limits.{count-forked, count-threaded}
use Rattle.model_laws.proofs.Callers.{thread_at-Some, caller_thread, is_thread_of-from}

-- ---- how many pass a test

-- as many pass after the change as pass the test of what they become
pub length-filter-map : {X Y : Type 0} (p : Y → Bool) (f : X → Y) (xs : List X) → length (filter p (map f xs)) ≡ length (filter (λ x. p (f x)) xs)
length-filter-map p f [] = refl
length-filter-map p f (x ∷ xs) = grind (arith, length-filter-map p f xs)

-- those that pass are those that stay and pass, and those that go and pass
length-filter-split : {X : Type 0} (p t : X → Bool) (xs : List X)
    → length (filter p xs) ≡ length (filter p (filter (λ x. not (t x)) xs)) + length (filter (λ x. t x && p x) xs)
length-filter-split p t [] = omega arith
length-filter-split p t (x ∷ xs) = grind (arith, length-filter-split p t xs)

-- of a rising list all but the one that goes
length-filter-but : {X : Type 0} (p goes : X → Bool) (key : X → ℕ) (xs : List X) → IsRising (map key xs) → (x : X) → IsIn x xs → goes x ≡ true
    → ((y : X) → IsIn y xs → goes y ≡ true → key y ≡ key x)
    → length (filter p xs) ≡ length (filter p (filter (λ y. not (goes y)) xs)) + one_where (p x)
length-filter-but p goes key [] rise x i here one = elim i [ ]
length-filter-but p goes key (y ∷ xs) rise x (inl same) here one =
    let others : filter (λ z. not (goes z)) xs ≡ xs = filter-all (λ z. not (goes z)) xs (λ z j.
    not_from_false (goes z) (false_from_ne_true (goes z) (λ e.
    let l : key y < key z = rise.0 (key z) (IsIn-map key z xs j) in
    let k : key z ≡ key x = one z (inr j) e in
    let m : key x ≡ key y = ap key same in omega arith))) in
    let gone : goes y ≡ true = ap goes (sym same) ∙ here in
    grind arith
length-filter-but p goes key (y ∷ xs) rise x (inr i) here one =
    let h = length-filter-but p goes key xs rise.1 x i here (λ z j. one z (inr j)) in
    let stays : goes y ≡ false = false_from_ne_true (goes y) (λ e.
    let l : key y < key x = rise.0 (key x) (IsIn-map key x xs i) in
    let k : key y ≡ key x = one y (inl refl) e in omega arith) in
    grind arith

-- of rising rows all but the one that has the name
length-filter-without : (p : Row → Bool) (rows : List Row) → IsRising (map (λ r. root_number r.name) rows) → (x : Row) → IsIn x rows
    → length (filter p rows) ≡ length (filter p (filter (λ r. not (same_name r.name x.name)) rows)) + one_where (p x)
length-filter-without p rows rise x i =
    length-filter-but p (λ r. same_name r.name x.name) (λ (r : Row). root_number r.name) rows rise x i (same_name-refl x.name x.name refl)
    (λ r j e. ap root_number (same_name-true r.name x.name e))

-- the sweep changes no count
count-swept : (state : State) (c : ℕ) → count (sweep state) c ≡ count state c
unfolding count sweep
count-swept state c = refl

-- ---- fork, and a new thread

-- a fork counts one more up from the caller's home
pub fork_counts_one : ForkCountsOne
unfolding count
fork_counts_one state stamp n new_space caller child root found told c = go new_space _ (step_comes state stamp (Fork n new_space)) told
  where
    born_of : (other : Row) → caller_of state n ≡ Some other → (k : ℕ)
        → k ≡ count state c + one_where (is_below state.controls (as_thread state n other).home c)
        → k ≡ count state c + one_where (is_below state.controls (as_thread state n caller).home c)
    born_of other there k e =
        let same : other ≡ caller = cc in
        subst (λ (x : Row). k ≡ count state c + one_where (is_below state.controls (as_thread state n x).home c)) same e

    go : (b : Bool) (o : Outcome) → Comes state stamp (Fork n b) o → o.reply ≡ Forked child root
        → count o.state c ≡ count state c + one_where (is_below state.controls (as_thread state n caller).home c)
    go b o (still _ reply answer) told = absurd (no_answer reply (Forked child root) answer refl told)
    go b o (born _ _ other plain there stands may) told =
        born_of other there _ (count-forked state (as_thread state n other) (as_thread state n other).children_space c)
    go b o (born_first _ other there _ _ _ _) told =
        born_of other there _ (count-forked (with_space state (as_thread state n other).children_space stamp) (as_thread state n other) stamp c)

-- so does a new thread
pub thread_counts_one : ThreadCountsOne
thread_counts_one state n caller made root found told c = go _ (thread_step_comes state (NewThread n)) told
  where
    go : (o : Outcome) → ComesOfThreads state (NewThread n) o → o.reply ≡ Forked made root
        → count o.state c ≡ count state c + one_where (is_below state.controls (as_thread state n caller).home c)
    go o (still_threads _ reply answer) told = absurd (no_answer reply (Forked made root) answer refl told)
    go o (thread_made _ other there here may) told =
        let same : other ≡ caller = cc in
        subst (λ (x : Row). count (threaded state (as_thread state n other)).state c
        ≡ count state c + one_where (is_below state.controls (as_thread state n x).home c)) same
        (count-threaded state (as_thread state n other) c)

-- ---- a thread that leaves

-- what a thread leaves that leaves others running
after_leave : (state : State) (n status : ℕ) (caller : Row) → caller_of state n ≡ Some caller → (running state caller == 1) ≡ false
    → (thread_step state (Leave n status)).state ≡ sweep (without_caller state n caller)
unfolding thread_step leave
after_leave state n status caller found more =
    ap (λ o. (for_found state o NoCaller (λ row.
    if running state row == 1 then ends state status row else changed (without_caller state n row) Done)).state) found
    ∙ ap (λ b. (if b then ends state status caller else changed (without_caller state n caller) Done).state) more

-- a thread that leaves others running counts one less, unless it is a first one
pub leaving_counts_one_less : LeavingCountsOneLess
unfolding count sweep without_thread without_first
leaving_counts_one_less state n status caller sound found more = (
  λ t at c.
      let f = thread_at-Some state n t at in
      let is : (thread_step state (Leave n status)).state ≡ sweep (without_thread state n) = after_leave state n status caller found more
      ∙ ap (λ o. sweep (option_map_or (λ (u : Thread). without_thread state n) o (without_first state caller))) at in
      let less = length-filter-but (λ (u : Thread). is_below state.controls u.home c) (λ u. root_number u.name == n)
      (λ (u : Thread). root_number u.name) state.threads sound.coherent.threads_rise t f.0 (eq-eqb (root_number t.name) n f.1)
      (λ u j e. eqb-true (root_number u.name) n e ∙ sym f.1) in
      let all : count state c ≡ count (sweep (without_thread state n)) c + one_where (is_below state.controls t.home c) = omega (arith, less) in
      all ∙ ap (λ s. count s c + one_where (is_below state.controls t.home c)) (sym is),
  λ none c. ap (λ s. count s c) (after_leave state n status caller found more
      ∙ ap (λ o. sweep (option_map_or (λ (u : Thread). without_thread state n) o (without_first state caller))) none),
)

-- ---- reaping

-- a reaping counts one less up from the home of the task that it takes
pub reaping_counts_one_less : ReapingCountsOneLess
unfolding count sweep without_row
reaping_counts_one_less state stamp n which caller child ended sound found told = go _ (step_comes state stamp (Wait n which)) told
  where
    go : (o : Outcome) → Comes state stamp (Wait n which) o → o.reply ≡ Reaped child ended
        → (row : Row) × IsIn row state.rows × (is_live row ≡ false) × (number_or_zero state.spaces row.name caller.name.space ≡ child)
        × ((c : ℕ) → count state c ≡ count o.state c + one_where (is_below state.controls row.home c))
    go o (still _ reply answer) told = absurd (no_answer reply (Reaped child ended) answer refl told)
    go o (waits _ _ other there none) told = absurd (cc)
    go o (reaped _ _ other row there least) told =
        let same : other ≡ caller = cc in
        let number : number_or_zero state.spaces row.name other.name.space ≡ child = cc in
        let r = reaped_row state other row which least in (
          row,
          r.0,
          r.1,
          rw same at number,
          λ c.
              let less = length-filter-without (λ z. is_below state.controls z.home c) state.rows sound.coherent.rows_rise row r.0 in omega (arith, less),
        )

-- ---- fall

-- a fall counts as many less as it takes
pub fall_counts_taken : FallCountsTaken
unfolding count sweep fall rows_after_fall
fall_counts_taken state stamp n status init found first told c = go _ (step_comes state stamp (Exit n status)) told
  where
    go : (o : Outcome) → Comes state stamp (Exit n status) o → o.reply ≡ Done
        → count state c ≡ count o.state c + length (filter (λ row. goes_in_fall state init row && is_below state.controls row.home c) state.rows)
        + length (filter (λ t. is_of state.spaces init.name.space t.name && is_below state.controls t.home c) state.threads)
    go o (still _ reply answer) told = absurd (no_answer reply Done answer refl told)
    go o (handed_on _ _ other there none) told = absurd (let same : other ≡ init = cc in let no : is_init state init ≡ false = rw same at none in cc)
    go o (fell _ _ other there deep one) told =
        let same : init ≡ other = cc in
        rw same (
        let rows = length-filter-split (λ (row : Row). is_below state.controls row.home c) (goes_in_fall state other) state.rows in
        let threads = length-filter-split (λ (t : Thread). is_below state.controls t.home c)
        (λ (t : Thread). is_of state.spaces other.name.space t.name) state.threads in
        let m = length-filter-map (λ (row : Row). is_below state.controls row.home c) (row_after_fall state other status)
        (filter (λ row. not (goes_in_fall state other row)) state.rows) in
        omega (arith, rows, threads, m))

-- ---- the end of a process with threads, and its exec

-- an exit by which no namespace falls counts its threads no more
pub end_counts_threads : EndCountsThreads
unfolding count sweep handed_over rows_after_exit
end_counts_threads state stamp n status caller found first told c = go _ (step_comes state stamp (Exit n status)) told
  where
    go : (o : Outcome) → Comes state stamp (Exit n status) o → o.reply ≡ Done
        → count state c ≡ count o.state c + length (filter (λ t. is_thread_of caller.name t && is_below state.controls t.home c) state.threads)
    go o (still _ reply answer) told = absurd (no_answer reply Done answer refl told)
    go o (fell _ _ other there deep one) told = absurd (
        let same : other ≡ caller = cc in
        let no : is_init state other ≡ false = subst (λ (x : Row). is_init state x ≡ false) (sym same) first in cc)
    go o (handed_on _ _ other there none) told =
        let same : caller ≡ other = cc in
        rw same (
        let threads = length-filter-split (λ (t : Thread). is_below state.controls t.home c) (is_thread_of other.name) state.threads in
        let m = length-filter-map (λ (r : Row). is_below state.controls r.home c) (row_after_exit other (new_parent state other) (Exited status)) state.rows in
        omega (arith, threads, m))

-- of rising rows one that is changed counts as what it becomes
one_changed : (p : Row → Bool) (change : Row → Row) (rows : List Row) → IsRising (map (λ r. root_number r.name) rows) → (task : Row) → IsIn task rows
    → length (filter p (map (on_row task.name change) rows)) + one_where (p task) ≡ length (filter p rows) + one_where (p (change task))
one_changed p change rows rise task i =
    let after : Row → Bool = λ r. p (on_row task.name change r) in
    let others : List Row = filter (λ r. not (same_name r.name task.name)) rows in
    let a : length (filter p rows) ≡ length (filter p others) + one_where (p task) = length-filter-without p rows rise task i in
    let b : length (filter after rows) ≡ length (filter after others) + one_where (after task) = length-filter-without after rows rise task i in
    let m : length (filter p (map (on_row task.name change) rows)) ≡ length (filter after rows) = length-filter-map p (on_row task.name change) rows in
    let same : filter after others ≡ filter p others = filter-same after p others (λ r j.
    let f = IsIn-from_filter (λ r. not (same_name r.name task.name)) r rows j in
    ap (λ x. p (if x then change r else r)) (not-true (same_name r.name task.name) f.1)) in
    let l : length (filter after others) ≡ length (filter p others) = ap length same in
    let new : one_where (after task) ≡ one_where (p (change task)) =
    ap (λ x. one_where (p (if x then change task else task))) (same_name-refl task.name task.name refl) in
    omega arith

-- what an exec leaves
after_exec_of : (state : State) (stamp n : ℕ) (caller : Row) → caller_of state n ≡ Some caller
    → (step state stamp (Exec n)).state ≡ sweep (after_exec state n caller.name)
unfolding step exec
after_exec_of state stamp n caller found =
    ap (λ o. (for_found state o NoCaller (λ row. changed (after_exec state n row.name) Done)).state) found

-- an exec counts its process once, and its threads no more
pub exec_counts_one : ExecCountsOne
unfolding count sweep after_exec with_row
exec_counts_one state stamp n caller sound found c =
    let one = one_changed (λ (r : Row). is_below state.controls r.home c) (set_executed state n) state.rows sound.coherent.rows_rise
    caller (caller_of-Some state n caller found).0 in
    let threads = length-filter-split (λ (t : Thread). is_below state.controls t.home c) (is_thread_of caller.name) state.threads in
    let all : count state c + one_where (is_below state.controls (as_thread state n caller).home c)
    ≡ count (sweep (after_exec state n caller.name)) c + one_where (is_below state.controls caller.home c)
    + length (filter (λ t. is_thread_of caller.name t && is_below state.controls t.home c) state.threads) = omega (arith, one, threads) in
    all ∙ ap (λ s. count s c + one_where (is_below state.controls caller.home c)
    + length (filter (λ t. is_thread_of caller.name t && is_below state.controls t.home c) state.threads)) (sym (after_exec_of state stamp n caller found))

-- ---- move

-- a process's threads that are moved count where they go, and the others where they were
threads_moved : (here : ℕ → Bool) (process : Name) (id : ℕ) (ts : List Thread)
    → length (filter (λ t. here t.home) (map (set_thread_home process id) ts)) + length (filter here (map (λ t. t.home) (filter (is_thread_of process) ts)))
    ≡ length (filter (λ t. here t.home) ts) + length (filter (λ h. here id) (map (λ t. t.home) (filter (is_thread_of process) ts)))
threads_moved here process id [] = refl
threads_moved here process id (t ∷ ts) =
    let rest = threads_moved here process id ts in
    elim (cases_Bool (is_thread_of process t)) [
      | inl e ↦ grind arith
      | inr e ↦ grind arith
    ]

-- so does its first one, if it has not left
first_moved : (state : State) → IsSound state → (task : Row) (id c : ℕ) → IsIn task state.rows
    → length (filter (λ r. is_below state.controls r.home c) (map (on_row task.name (set_home state id)) state.rows))
    + length (filter (λ h. is_below state.controls h c) (if has_left state (root_number task.name) then [] else task.home ∷ []))
    ≡ length (filter (λ r. is_below state.controls r.home c) state.rows)
    + length (filter (λ h. is_below state.controls id c) (if has_left state (root_number task.name) then [] else task.home ∷ []))
first_moved state sound task id c i =
    let here : ℕ → Bool = λ home. is_below state.controls home c in
    let one = one_changed (λ (r : Row). here r.home) (set_home state id) state.rows sound.coherent.rows_rise task i in
    let two = alone (has_left state (root_number task.name)) here in
    omega (arith, one, two)
  where
    alone : (b : Bool) (here : ℕ → Bool)
        → one_where (here (if b then task.home else id)) + length (filter here (if b then [] else task.home ∷ []))
        ≡ one_where (here task.home) + length (filter (λ h. here id) (if b then [] else task.home ∷ []))
    alone true here = refl
    alone false here = grind arith

-- one more list joined adds what passes of it
pub length-filter-append : (p : ℕ → Bool) (xs ys : List ℕ) → length (filter p (xs ++ ys)) ≡ length (filter p xs) + length (filter p ys)
length-filter-append p [] ys = omega arith
length-filter-append p (x ∷ xs) ys = grind (arith, length-filter-append p xs ys)

-- all running threads of the process count where they go
count-moved : (state : State) → IsSound state → (task : Row) (id c : ℕ) → IsIn task state.rows
    → count (with_home state task.name id) c + length (filter (λ h. is_below state.controls h c) (homes_running state task))
    ≡ count state c + length (filter (λ h. is_below state.controls id c) (homes_running state task))
unfolding count with_home with_row
count-moved state sound task id c i =
    let threads : List ℕ = map (λ (t : Thread). t.home) (filter (is_thread_of task.name) state.threads) in
    let own : List ℕ = if has_left state (root_number task.name) then [] else task.home ∷ [] in
    let first = first_moved state sound task id c i in
    let rest = threads_moved (λ h. is_below state.controls h c) task.name id state.threads in
    let one = length-filter-append (λ h. is_below state.controls h c) threads own in
    let two = length-filter-append (λ h. is_below state.controls id c) threads own in
    omega (arith, first, rest, one, two)

-- so does every move that is answered
pub move_counts_both : MoveCountsBoth
move_counts_both state stamp n id task sound found told c = go _ (step_comes state stamp (Move n id)) told
  where
    go : (o : Outcome) → Comes state stamp (Move n id) o → o.reply ≡ Done
        → count o.state c + length (filter (λ h. is_below state.controls h c) (homes_running state task))
        ≡ count state c + length (filter (λ h. is_below state.controls id c) (homes_running state task))
    go o (still _ reply answer) told = absurd (no_answer reply Done answer refl told)
    go o (moved _ _ other g there at) told =
        let same : task ≡ other = cc in
        subst (λ (x : Row). count (sweep (with_home state x.name id)) c + length (filter (λ h. is_below state.controls h c) (homes_running state task))
        ≡ count state c + length (filter (λ h. is_below state.controls id c) (homes_running state task))) same
        (ap (λ k. k + length (filter (λ h. is_below state.controls h c) (homes_running state task))) (count-swept (with_home state task.name id) c)
        ∙ count-moved state sound task id c (process_at-Some state n task found).0)

-- ---- nothing else

-- a control group that is there before and after counts the same
abbrev pub CountsSame : State → ℕ → State → Type 0
CountsSame state c next = (g h : Control) → control_at state.controls c ≡ Some g → control_at next.controls c ≡ Some h → count next c ≡ count state c

-- a change that changes no home counts the same
count-map : {X : Type 0} (controls : List Control) (c : ℕ) (home : X → ℕ) (f : X → X) (xs : List X) → ((x : X) → home (f x) ≡ home x)
    → length (filter (λ x. is_below controls (home x) c) (map f xs)) ≡ length (filter (λ x. is_below controls (home x) c) xs)
count-map controls c home f xs homes =
    length-filter-map (λ x. is_below controls (home x) c) f xs
    ∙ ap length (filter-same (λ x. is_below controls (home (f x)) c) (λ x. is_below controls (home x) c) xs (λ x i. ap (λ h. is_below controls h c) (homes x)))

-- a change of rows that changes no home
CountsSame-map : (state : State) (c : ℕ) (f : Row → Row) → ((r : Row) → (f r).home ≡ r.home)
    → CountsSame state c (sweep (record state { rows = map f state.rows }))
unfolding count sweep
CountsSame-map state c f homes g h d e =
    ap (λ k. length (filter (λ (t : Thread). is_below state.controls t.home c) state.threads) + k)
    (count-map state.controls c (λ (r : Row). r.home) f state.rows homes)

-- a change of one row that does not change its home
CountsSame-on_row : (state : State) (c : ℕ) (name : Name) (change : Row → Row) → ((r : Row) → (change r).home ≡ r.home)
    → CountsSame state c (sweep (with_row state name change))
unfolding with_row
CountsSame-on_row state c name change homes = CountsSame-map state c (on_row name change) (on_row-keeps name change (λ r. r.home) homes)

-- a change of threads that changes no home
CountsSame-threads : (state : State) (c : ℕ) (f : Thread → Thread) → ((t : Thread) → (f t).home ≡ t.home)
    → CountsSame state c (sweep (record state { threads = map f state.threads }))
unfolding count sweep
CountsSame-threads state c f homes g h d e =
    ap (λ k. k + length (filter (λ (r : Row). is_below state.controls r.home c) state.rows))
    (count-map state.controls c (λ (t : Thread). t.home) f state.threads homes)

-- a process with its first thread alone has no other
no_thread_of : (state : State) (row : Row) → is_alone state row ≡ true → (t : Thread) → IsIn t state.threads → is_thread_of row.name t ≡ true → ⊥
no_thread_of state row lone t i e =
    let own : List Thread = filter (is_thread_of row.name) state.threads in
    let q = and_parts (length own == 0) (not (has_left state (root_number row.name))) lone in
    let none : length own ≡ 0 = eqb-true (length own) 0 q.0 in
    let some : 0 < length own = length-IsIn t own (IsIn-filter (is_thread_of row.name) t state.threads i e) in
    omega arith

-- the end of such a process
CountsSame-ended : (state : State) (c : ℕ) (task : Row) (f : Row → Row) → ((r : Row) → (f r).home ≡ r.home) → is_alone state task ≡ true
    → CountsSame state c (sweep (without_threads task.name (record state { rows = map f state.rows })))
unfolding count sweep
CountsSame-ended state c task f homes lone g h d e =
    let same : filter (λ t. not (is_thread_of task.name t)) state.threads ≡ state.threads = filter-all (λ t. not (is_thread_of task.name t)) state.threads
    (λ t i. not_from_false (is_thread_of task.name t) (false_from_ne_true (is_thread_of task.name t) (no_thread_of state task lone t i))) in
    let threads = ap (λ ts. length (filter (λ (t : Thread). is_below state.controls t.home c) ts)) same in
    omega (arith, threads, count-map state.controls c (λ (r : Row). r.home) f state.rows homes)

-- its first thread calls
lone_caller : (state : State) → IsSound state → (n : ℕ) (caller : Row) → caller_of state n ≡ Some caller → is_alone state caller ≡ true
    → thread_at state n ≡ None
lone_caller state sound n caller found lone = option_both (thread_at state n) (λ o. o ≡ None) (λ e. refl) (λ t e.
    let own = is_thread_of-from caller.name t (caller_thread state sound.coherent n caller t found e) in
    absurd (no_thread_of state caller lone t (thread_at-Some state n t e).0 own))

-- and its exec
CountsSame-exec : (state : State) → IsSound state → (n : ℕ) (caller : Row) (c : ℕ) → caller_of state n ≡ Some caller → is_alone state caller ≡ true
    → CountsSame state c (sweep (after_exec state n caller.name))
unfolding after_exec with_row
CountsSame-exec state sound n caller c found lone =
    CountsSame-ended state c caller (on_row caller.name (set_executed state n))
    (on_row-keeps caller.name (set_executed state n) (λ r. r.home)
    (λ r. ap (λ o. option_map_or (λ (t : Thread). t.home) o r.home) (lone_caller state sound n caller found lone))) lone

-- other control groups in which each home has the path that it had
CountsSame-paths : (state : State) (controls : List Control) (c : ℕ)
    → ((r : Row) → IsIn r state.rows → control_path controls r.home ≡ control_path state.controls r.home)
    → ((t : Thread) → IsIn t state.threads → control_path controls t.home ≡ control_path state.controls t.home)
    → CountsSame state c (sweep (record state { controls = controls }))
unfolding count sweep
CountsSame-paths state controls c paths thread_paths g h d e =
    let rows = ap length (filter-same (λ (r : Row). is_below controls r.home c) (λ r. is_below state.controls r.home c) state.rows
    (λ r i. ap (λ p. contains p c) (paths r i))) in
    let threads = ap length (filter-same (λ (t : Thread). is_below controls t.home c) (λ t. is_below state.controls t.home c) state.threads
    (λ t i. ap (λ p. contains p c) (thread_paths t i))) in
    omega (arith, rows, threads)

-- a number that is in one list exactly where it is in the other
same_contains : (n : ℕ) (ns ms : List ℕ) → (IsIn n ns → IsIn n ms) → (IsIn n ms → IsIn n ns) → contains ns n ≡ contains ms n
same_contains n ns ms to from =
    same_from_decides _ _ (IsIn-from_contains ns n, contains-from_IsIn ns n)
    (λ e. from (IsIn-from_contains ms n e), λ i. contains-from_IsIn ms n (to i))

-- zombies that go to the parent count in each control group above it as before
CountsSame-removed : (state : State) → IsSound state → (id parent c : ℕ) (g : Control)
    → control_at state.controls id ≡ Some g → g.parent ≡ Some parent → is_busy state id ≡ false
    → CountsSame state c (sweep (without_control state id parent))
unfolding count sweep without_control
CountsSame-removed state sound id parent c g found under idle x h d e =
    let left : List Control = others state.controls tree id childless in
    let m = length-filter-map (λ (r : Row). is_below left r.home c) (rehome id parent) state.rows in
    let rows = ap length (filter-same (λ (r : Row). is_below left (rehome id parent r).home c) (λ r. is_below state.controls r.home c) state.rows
    (λ r i. home r.home)) in
    let threads = ap length (filter-same (λ (t : Thread). is_below left t.home c) (λ t. is_below state.controls t.home c) state.threads
    (λ t i. ap (λ p. contains p c) (other_path state.controls tree id childless t.home (no_thread state id idle t i)))) in
    omega (arith, m, rows, threads)
  where
    tree : IsTreeOfControls state.controls
    tree = sound.coherent.controls

    childless : (d : Control) → IsIn d state.controls → d.parent ≡ Some id → ⊥
    childless d i e = no_child state id idle d i e

    apart : parent ≡ id → ⊥
    apart e = childless g (control_at-Some state.controls id g found).0 (under ∙ ap Some e)

    differs : c ≡ id → ⊥
    differs same =
        let gone = control_at-Some (others state.controls tree id childless) c h e in
        eqb-false h.id id (not-true (h.id == id) (IsIn-from_filter (λ y. not (y.id == id)) h state.controls gone.0).1) (gone.1 ∙ same)

    -- the parent's chain is the rest of the one that goes
    up : is_below state.controls parent c ≡ is_below state.controls id c
    up = same_contains c (control_path state.controls parent) (control_path state.controls id)
        (λ i. path_of_parent state.controls tree id parent g found under c i) (λ i. path_of_child state.controls tree id parent g found under c differs i)

    home : (x : ℕ) → is_below (others state.controls tree id childless) (if x == id then parent else x) c ≡ is_below state.controls x c
    home x = cond_both (x == id) parent x (λ y. is_below (others state.controls tree id childless) y c ≡ is_below state.controls x c)
        (λ e. ap (λ p. contains p c) (other_path state.controls tree id childless parent apart) ∙ up ∙ ap (λ y. is_below state.controls y c)
        (sym (eqb-true x id e)))
        (λ e. ap (λ p. contains p c) (other_path state.controls tree id childless x (eqb-false x id e)))

-- what a test finds of the caller is what it finds of who calls
of_caller : (state : State) (n : ℕ) (caller : Row) (test : Row → Bool) → caller_of state n ≡ Some caller
    → option_map_or test (caller_of state n) false ≡ false → test caller ≡ false
of_caller state n caller test found e = sym (ap (λ o. option_map_or test o false) found) ∙ e

-- no other call changes a count
pub nothing_else_counts : NothingElseCounts
unfolding rows_after_exit handed_over with_control with_limit
nothing_else_counts state stamp call sound below quiet c = go call _ (step_comes state stamp call) quiet
  where
    go : (call : Call) (o : Outcome) → Comes state stamp call o → may_change_counts state call ≡ false → CountsSame state c o.state
    go call o (still _ reply answer) quiet = λ g h d e. refl
    go call o (executed n caller found) quiet =
        CountsSame-exec state sound n caller c found
        (not-false (is_alone state caller) (of_caller state n caller (λ row. not (is_alone state row)) found quiet))
    go call o (fell n status caller found deep one) quiet =
        let q = of_caller state n caller (λ row. is_init state row || not (is_alone state row)) found quiet in
        let no : is_init state caller ≡ false = (or_parts (is_init state caller) (not (is_alone state caller)) q).0 in
        absurd (cc)
    go call o (handed_on n status caller found none) quiet =
        let q = of_caller state n caller (λ row. is_init state row || not (is_alone state row)) found quiet in
        CountsSame-ended state c caller (row_after_exit caller (new_parent state caller) (Exited status)) (λ r. refl)
        (not-false (is_alone state caller) (or_parts (is_init state caller) (not (is_alone state caller)) q).1)
    go call o (grouped n pid pgid caller target group found aimed first same own there) quiet =
        CountsSame-on_row state c target.name (set_group group) (λ r. refl)
    go call o (led n caller found none) quiet = CountsSame-on_row state c caller.name start_session (λ r. refl)
    go call o (control_made parent g found shallow) quiet = CountsSame-paths state _ c (λ r i.
        let home = sound.coherent.homes r i in
        path_old state.controls sound.coherent.controls stamp parent below.controls r.home
        (control_to_root state.controls sound.coherent.controls r.home home.0 home.1)) (λ t i.
        let home = (sound.coherent.threads t i).home in
        path_old state.controls sound.coherent.controls stamp parent below.controls t.home
        (control_to_root state.controls sound.coherent.controls t.home home.0 home.1))
    go call o (control_removed id parent g found under idle) quiet =
        CountsSame-removed state sound id parent c g found under idle
    go call o (limit_set id parent limit g found under good) quiet =
        CountsSame-paths state _ c (λ r i. control_path-map state.controls (limited id limit) (λ x. refl) (λ x. refl) r.home)
        (λ t i. control_path-map state.controls (limited id limit) (λ x. refl) (λ x. refl) t.home)
    go call o (joined n target caller row found there live none) quiet =
        CountsSame-on_row state c caller.name (set_children_space row.name.space) (λ r. refl)
    go call o (joined_other n target caller row t found there live at) quiet =
        CountsSame-threads state c (set_thread_space n row.name.space) (λ u. refl)
    go call o (marked n on caller found) quiet = CountsSame-on_row state c caller.name (set_mark on) (λ r. refl)
    go call o _ quiet = absurd (cc)

-- nor does a query about threads
pub thread_queries_count_nothing : ThreadQueriesCountNothing
unfolding thread_step
thread_queries_count_nothing state (NewThread n) quiet c = absurd (cc)
thread_queries_count_nothing state (Leave n status) quiet c = absurd (cc)
thread_queries_count_nothing state (GetTid n) quiet c = refl
thread_queries_count_nothing state (GetTgid n target) quiet c = refl
thread_queries_count_nothing state (NextThread n from) quiet c = refl
