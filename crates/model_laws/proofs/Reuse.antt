-- No number is handed out twice.
use Rattle.model_laws.proofs.Words.{◌≡◌, ℕ, zero, suc, ◌+◌, ◌<◌, true, List, [], ◌∷◌, length, take, Some, refl, sym, ap, ◌∙◌, subst, inl, inr, arith, add-one, slice_get, eqb-true, length-map, length-take-le, slice_get_within, Call, Name, Row, Space, Thread, Control, Entry, find, is_none, None, ◌==◌, draw, control_at, new_name, caller_of, as_thread, thread_at, thread_of, with_thread, threaded, in_use, State, path_up, number, root_number, is_live, row_at, Outcome, sweep, child_of, with_child, with_cursors, step, calls_of, Along, RepliesAsOne, IsIn, IsCoherent, IsSound, IsBelow, forked, moved_cursor, Forked, NewThread}
use Rattle.model_laws.proofs.Ground.{user_of_name, IsIn-names_in_use, own_in_use, used_by_row, thread_in_use, in_use_cases, find-key, row_at-listed, caller_of-Some}
use Rattle.model_laws.specs.ReuseLaws.{NoReuse, state_at, IsInUse, ShareNumber, ThreadReusesNoNumber}
use Rattle.model_laws.proofs.Inserts.{IsIn-insert_new, IsIn-insert_old, IsIn-insert_by_new, IsIn-insert_by_old}
use Rattle.model_laws.proofs.Sweeps.{name_number}
use Rattle.model_laws.proofs.Calls.{MayFork, Comes, still, born, born_first, thread_made, ComesOfThreads, still_threads, no_answer}
use Rattle.model_laws.proofs.Refusals.{step_comes, thread_step_comes}
use Rattle.model_laws.proofs.ForkKept.{IsReady, IsReady-old, IsReady-new, with_new, fresh, forked_coherent, as_thread_good}
use Rattle.model_laws.proofs.ThreadKept.{thread_leaves, ready_for_thread}
use Rattle.model_laws.proofs.SpaceMaps.{number-map_spaces}
use Rattle.model_laws.proofs.StepKept.{step_keeps, run_keeps}

-- ---- one call

-- the row found under the root number that the reply tells shares no number with the name
abbrev IsFresh : Name → Outcome → Type 0
IsFresh name o =
    (child root : ℕ) (row : Row) → o.reply ≡ Forked child root → IsSound o.state → row_at o.state.rows root ≡ Some row
    → ShareNumber o.state name row.name → ⊥

module _ (old : State) (sound : IsCoherent old) (spaces : List Space) (owner : Row) (t : ℕ) (ready : IsReady old spaces owner t) (there : IsIn owner old.rows)
    (live : is_live owner ≡ true) (numbers : find (λ s. is_none (draw (record old { spaces = spaces }) s)) (path_up spaces t) ≡ None)
    (home into : ℕ) (good_home : (c : Control) × (control_at old.controls home ≡ Some c)) where
  -- the state in which the numbers are drawn
  abbrev drawing : State
  drawing = record old { spaces = spaces }

  -- the caller
  abbrev caller : Row
  caller = record owner { home = home; children_space = into }

  -- its new name shares no number with one that was in use, in a state in which both are in use, after the sweep
  apart_after : (next : State) → IsCoherent next → next.spaces ≡ with_cursors drawing (path_up spaces t) → (name : Name) → IsIn name (in_use old)
      → IsIn name (in_use next) → IsIn (new_name drawing t) (in_use next) → ShareNumber (sweep next) name (new_name drawing t) → ⊥
  unfolding sweep with_cursors
  apart_after next good same name i kept new share =
      fresh old sound spaces owner t ready there live numbers home into good_home name i share.0 share.1
      (sym (swept (new_name drawing t) new) ∙ share.3) (sym (swept name kept) ∙ share.2)
    where
      swept : (a : Name) → IsIn a (in_use next) → number (sweep next).spaces a share.0 ≡ number spaces a share.0
      swept a j = name_number next good a j share.0 ∙ ap (λ x. number x a share.0) same
          ∙ number-map_spaces spaces (moved_cursor drawing (path_up spaces t)) (λ x. refl) (λ x. refl) a share.0

  -- a task that a fork makes shares no number with a name that was in use
  IsFresh-forked : (name : Name) → IsIn name (in_use old) → IsFresh name (forked drawing caller t)
  unfolding sweep
  IsFresh-forked name i c root row told after found share =
      let child : Row = child_of drawing caller t in
      let next : State = with_child drawing child (path_up spaces t) in
      let new : IsIn child next.rows = IsIn-insert_new child old.rows in
      let told_root : root_number child.name ≡ root = cc in
      let at : row_at next.rows root ≡ Some child = subst (λ m. row_at next.rows m ≡ Some child) told_root
      (row_at-listed next.rows after.coherent.rows_rise child new) in
      let same : row ≡ child = cc in
      apart_after next (forked_coherent old sound spaces owner t ready there live numbers home into good_home).0 refl name i
      (elim (in_use_cases old name i) [
        | inl j ↦
            let user = user_of_name old.rows name j in
            used_by_row next name (IsIn-names_in_use next.rows user.0 name (IsIn-insert_old child old.rows user.0 user.1) user.2)
        | inr u ↦ subst (λ x. IsIn x (in_use next)) (sym u.2) (thread_in_use next u.0 u.1)
      ])
      (own_in_use next child new)
      (subst (λ (r : Row). ShareNumber (sweep next) name r.name) same share)

-- after a call in a sound state a new task shares no number with a name that was in use
comes_fresh : (state : State) (stamp : ℕ) (call : Call) (o : Outcome) → Comes state stamp call o → IsSound state → IsBelow stamp state → (name : Name)
    → IsInUse name state → IsFresh name o
comes_fresh state stamp call o (still _ reply answer) sound below name i = λ child root row told.
    absurd (no_answer reply (Forked child root) answer refl told)
comes_fresh state stamp call o (born n new_space caller plain found stands may) sound below name i =
    let c = caller_of-Some state n caller found in
    let own = as_thread state n caller in
    let good = as_thread_good state n caller sound.coherent found in
    IsFresh-forked state sound.coherent state.spaces caller own.children_space
    (IsReady-old state sound.coherent caller own.children_space c.0 stands good.1 may.numbers) c.0 c.1 may.numbers own.home own.children_space good.0 name i
comes_fresh state stamp call o (born_first n caller found stands shallow here may) sound below name i =
    let c = caller_of-Some state n caller found in
    let own = as_thread state n caller in
    let p : ℕ = own.children_space in
    let good = as_thread_good state n caller sound.coherent found in
    IsFresh-forked state sound.coherent (with_new state sound.coherent stamp below p stands shallow) caller stamp
    (IsReady-new state sound.coherent stamp below p stands shallow caller c.0 (eqb-true p caller.name.space here) may.numbers)
    c.0 c.1 may.numbers own.home p good.0 name i
comes_fresh state stamp call o _ sound below name i = λ child root row told. absurd (cc)

-- ---- a new thread

-- the thread found under the root number that the reply tells shares no number with a name that was in use
abbrev IsThreadFresh : State → ℕ → Outcome → Type 0
IsThreadFresh state root o =
    (t : Thread) × (thread_at o.state root ≡ Some t) × ((name : Name) → IsInUse name state → ShareNumber o.state name t.name → ⊥)

-- so it is with a new thread that is made
IsThreadFresh-threaded : (state : State) (n : ℕ) (caller : Row) → IsCoherent state → caller_of state n ≡ Some caller
    → ((as_thread state n caller).children_space == caller.name.space) ≡ true → MayFork state (as_thread state n caller) caller.name.space
    → IsThreadFresh state (root_number (new_name state caller.name.space)) (threaded state (as_thread state n caller))
unfolding sweep
IsThreadFresh-threaded state n caller sound found here may = (
  new,
  find-key (λ (u : Thread). root_number u.name) next.threads after.threads_rise new there,
  λ name i.
      apart_after state sound state.spaces caller caller.name.space (ready_for_thread state n caller sound found may) c.0 c.1 may.numbers
      (as_thread state n caller).home caller.name.space (as_thread_good state n caller sound found).0 next after refl name i
      (elim (in_use_cases state name i) [
        | inl j ↦ used_by_row next name j
        | inr u ↦ subst (λ x. IsIn x (in_use next)) (sym u.2)
            (thread_in_use next u.0 (IsIn-insert_by_old (λ (v : Thread). root_number v.name) new state.threads u.0 u.1))
      ])
      (thread_in_use next new there),
)
  where
    c : IsIn caller state.rows × (is_live caller ≡ true)
    c = caller_of-Some state n caller found

    new : Thread
    new = thread_of state (as_thread state n caller)

    next : State
    next = with_thread state new (path_up state.spaces caller.name.space)

    after : IsCoherent next
    after = (thread_leaves state n caller sound found here may).0

    there : IsIn new next.threads
    there = IsIn-insert_by_new (λ (u : Thread). root_number u.name) new state.threads

-- and with each that is answered
pub thread_reuses_no_number : ThreadReusesNoNumber
thread_reuses_no_number state n made root sound told = go _ (thread_step_comes state (NewThread n)) told
  where
    go : (o : Outcome) → ComesOfThreads state (NewThread n) o → o.reply ≡ Forked made root → IsThreadFresh state root o
    go o (still_threads _ reply answer) told = absurd (no_answer reply (Forked made root) answer refl told)
    go o (thread_made _ caller found here may) told =
        let told_root : root_number (new_name state caller.name.space) ≡ root = cc in
        subst (λ m. IsThreadFresh state m (threaded state (as_thread state n caller))) told_root
        (IsThreadFresh-threaded state n caller sound.coherent found here may)

-- ---- replays

-- what holds along a replay holds of each entry, at the state and the stamp that the entries before it leave
Along-at : (P : State → ℕ → Entry → Type 0) (opening : State) (first : ℕ) (entries : List Entry) → Along P opening first entries
    → (k : ℕ) (e : Entry) → slice_get entries k ≡ Some e → P (state_at opening first entries k) (first + k) e
Along-at P opening first [] all k e at = absurd (cc)
Along-at P opening first (x ∷ entries) all zero e at = let same : x ≡ e = cc in subst (λ n. P opening n e) (let z : first ≡ first + 0 = omega arith in z) (subst (P opening first) same all.0)
Along-at P opening first (x ∷ entries) all (suc k) e at =
    subst (λ n. P (state_at (step opening first x.call).state (first + 1) entries k) n e) (let z : first + 1 + k ≡ first + suc k = omega arith in z)
    (Along-at P (step opening first x.call).state (first + 1) entries all.1 k e at)

-- the state after one entry more is that of one step more
state_at-suc : (opening : State) (first : ℕ) (entries : List Entry) (k : ℕ) (e : Entry) → slice_get entries k ≡ Some e
    → state_at opening first entries (suc k) ≡ (step (state_at opening first entries k) (first + k) e.call).state
state_at-suc opening first [] k e at = absurd (cc)
state_at-suc opening first (x ∷ entries) zero e at = let same : x ≡ e = cc in ap (λ (y : Entry). (step opening first y.call).state) same ∙ ap (λ n. (step opening n e.call).state) (let z : first ≡ first + 0 = omega arith in z)
state_at-suc opening first (x ∷ entries) (suc k) e at =
    state_at-suc (step opening first x.call).state (first + 1) entries k e at
    ∙ ap (λ n. (step (state_at (step opening first x.call).state (first + 1) entries k) n e.call).state) (let z : first + 1 + k ≡ first + suc k = omega arith in z)

-- while a name is in use, no fork makes a row that has one of its numbers in the same namespace
pub no_reuse : NoReuse
no_reuse opening first entries sound below run i j within name used k e child root row from to at told found share =
    let now : State = state_at opening first entries k in
    let kept = run_keeps opening first (calls_of (take k entries)) sound below in
    let long : length (calls_of (take k entries)) ≡ k = length-map (take k entries) (λ (x : Entry). x.call)
    ∙ length-take-le k entries (let l : k < length entries = slice_get_within entries k e at in omega arith) in
    let next : state_at opening first entries (k + 1) ≡ (step now (first + k) e.call).state =
    ap (state_at opening first entries) (add-one k) ∙ state_at-suc opening first entries k e at in
    let below : IsBelow (first + k) now = subst (λ n. IsBelow (first + n) now) long kept.1 in
    (comes_fresh now (first + k) e.call _ (step_comes now (first + k) e.call) kept.0 below name (used k from (omega arith))) child root row
    (Along-at RepliesAsOne opening first entries run k e at ∙ told)
    (step_keeps now (first + k) e.call kept.0 below).0 (subst (λ (x : State). row_at x.rows root ≡ Some row) next found)
    (subst (λ (x : State). ShareNumber x name row.name) next share)
