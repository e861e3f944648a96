-- No fork and no new thread raises a count above its limit.
use Rattle.model_laws.proofs.Words.{◌≡◌, ℕ, ◌+◌, ◌≤◌, Bool, false, List, [], ◌∷◌, length, Option, Some, None, refl, sym, ap, ◌∙◌, arith, filter, nat_lt, option_and_then, option_map_or, ltb-false, le-ltb, Call, Fork, NewThread, Row, Thread, Control, Entry, Forked, subst, root_number, insert_by, as_thread, thread_of, threaded, State, control_at, control_path, count, is_below, is_limited_below, passed_limit, Outcome, sweep, with_space, child_of, step, ForkedWithinLimits, ForksStayWithinLimits, IsIn, IsSound, IsBelow, forked}
use Rattle.model_laws.proofs.Ground.{find-None, find-key, row_at-listed}
use Rattle.model_laws.proofs.Inserts.{IsIn-insert_new}
use Rattle.model_laws.proofs.Calls.{MayFork, Comes, still, born, born_first, thread_made, no_answer, ComesOfThreads, still_threads}
use Rattle.model_laws.proofs.Refusals.{step_comes, thread_step_comes}
use Rattle.model_laws.specs.CountLaws.{one_where}
use Rattle.model_laws.specs.LimitLaws.{ForkKeepsLimits, ThreadKeepsLimits}
use Rattle.model_laws.proofs.StepKept.{step_keeps}

-- ---- counts after a fork

-- one more passes a test after the insertion, if the new one does
length-filter-insert : {X : Type 0} (p : X → Bool) (key : X → ℕ) (new : X) (xs : List X)
    → length (filter p (insert_by key new xs)) ≡ length (filter p xs) + one_where (p new)
length-filter-insert p key new [] = grind arith
length-filter-insert p key new (x ∷ xs) = grind (arith, length-filter-insert p key new xs)

-- a fork that is made counts one more up from the caller's home
pub count-forked : (state : State) (caller : Row) (t c : ℕ)
    → count (forked state caller t).state c ≡ count state c + one_where (is_below state.controls caller.home c)
unfolding count sweep
count-forked state caller t c =
    let rows = length-filter-insert (λ (row : Row). is_below state.controls row.home c) (λ (row : Row). root_number row.name)
    (child_of state caller t) state.rows in
    omega (arith, rows)

-- and so does a new thread
pub count-threaded : (state : State) (caller : Row) (c : ℕ)
    → count (threaded state caller).state c ≡ count state c + one_where (is_below state.controls caller.home c)
unfolding count sweep
count-threaded state caller c =
    let threads = length-filter-insert (λ (t : Thread). is_below state.controls t.home c) (λ (t : Thread). root_number t.name)
    (thread_of state caller) state.threads in
    omega (arith, threads)

-- which is no more than one
one_at_most : (b : Bool) → one_where b ≤ 1
one_at_most b = grind arith

-- a limit that is not below the greater number is not below the smaller one
limit_falls : (limit : Option ℕ) (n m : ℕ) → n ≤ m → option_map_or (λ l. nat_lt l m) limit false ≡ false
    → option_map_or (λ l. nat_lt l n) limit false ≡ false
limit_falls None n m h e = refl
limit_falls (Some l) n m h e = let k : m ≤ l = ltb-false l m e in le-ltb l n (omega arith)

-- after a fork no control group from the caller's home up is above its limit
fork_within : (state : State) (caller : Row) (t : ℕ) → MayFork state caller t → (c : ℕ) → IsIn c (control_path state.controls caller.home)
    → is_limited_below (forked state caller t).state (count (forked state caller t).state c) c ≡ false
unfolding passed_limit sweep
fork_within state caller t may c i =
    limit_falls (option_and_then (λ g. g.limit) (control_at state.controls c)) (count (forked state caller t).state c) (count state c + 1)
    (omega (arith, count-forked state caller t c, one_at_most (is_below state.controls caller.home c)))
    (find-None (λ d. is_limited_below state (count state d + 1) d) (control_path state.controls caller.home) may.limits c i)

-- nor is one after a new thread
thread_within : (state : State) (caller : Row) → MayFork state caller caller.name.space → (c : ℕ) → IsIn c (control_path state.controls caller.home)
    → is_limited_below (threaded state caller).state (count (threaded state caller).state c) c ≡ false
unfolding passed_limit sweep
thread_within state caller may c i =
    limit_falls (option_and_then (λ g. g.limit) (control_at state.controls c)) (count (threaded state caller).state c) (count state c + 1)
    (omega (arith, count-threaded state caller c, one_at_most (is_below state.controls caller.home c)))
    (find-None (λ d. is_limited_below state (count state d + 1) d) (control_path state.controls caller.home) may.limits c i)

-- so does every fork that is answered
pub fork_keeps_limits : ForkKeepsLimits
unfolding sweep
fork_keeps_limits state stamp n new_space caller child root found told = go new_space _ (step_comes state stamp (Fork n new_space)) told
  where
    go : (b : Bool) (o : Outcome) → Comes state stamp (Fork n b) o → o.reply ≡ Forked child root → (c : ℕ)
        → IsIn c (control_path o.state.controls (as_thread state n caller).home) → is_limited_below o.state (count o.state c) c ≡ false
    go b o (still _ reply answer) told c i = absurd (no_answer reply (Forked child root) answer refl told)
    go b o (born _ _ other plain there stands may) told c i =
        let same : caller ≡ other = cc in
        fork_within state (as_thread state n other) (as_thread state n other).children_space may c
        (subst (λ (x : Row). IsIn c (control_path state.controls (as_thread state n x).home)) same i)
    go b o (born_first _ other there stands shallow here may) told c i =
        let same : caller ≡ other = cc in
        fork_within (with_space state (as_thread state n other).children_space stamp) (as_thread state n other) stamp may c
        (subst (λ (x : Row). IsIn c (control_path state.controls (as_thread state n x).home)) same i)

-- and every new thread
pub thread_keeps_limits : ThreadKeepsLimits
unfolding sweep
thread_keeps_limits state n caller made root found told = go _ (thread_step_comes state (NewThread n)) told
  where
    go : (o : Outcome) → ComesOfThreads state (NewThread n) o → o.reply ≡ Forked made root → (c : ℕ)
        → IsIn c (control_path o.state.controls (as_thread state n caller).home) → is_limited_below o.state (count o.state c) c ≡ false
    go o (still_threads _ reply answer) told c i = absurd (no_answer reply (Forked made root) answer refl told)
    go o (thread_made _ other there here may) told c i =
        let same : caller ≡ other = cc in
        thread_within state (as_thread state n other) may c
        (subst (λ (x : Row). IsIn c (control_path state.controls (as_thread state n x).home)) same i)

-- ---- runs

-- a control group that the test does not find over its limit is within it
limit_holds : (state : State) → IsSound state → (c : Control) → IsIn c state.controls → (limit : ℕ) → c.limit ≡ Some limit
    → is_limited_below state (count state c.id) c.id ≡ false → count state c.id ≤ limit
limit_holds state sound c i limit some within =
    let found : control_at state.controls c.id ≡ Some c = find-key (λ (d : Control). d.id) state.controls sound.coherent.controls.rising c i in
    ltb-false limit (count state c.id)
    (ap (λ o. option_map_or (λ l. nat_lt l (count state c.id)) o false) (sym (ap (option_and_then (λ g. g.limit)) found ∙ some)) ∙ within)

-- a fork that is made in a sound state leaves the new task, found by its root number, within the limits
forked_within : (state : State) (caller : Row) (t : ℕ) → MayFork state caller t → IsSound (forked state caller t).state
    → ForkedWithinLimits (forked state caller t).state (forked state caller t).reply
unfolding sweep
forked_within state caller t may sound =
    let child : Row = child_of state caller t in
    let after : State = (forked state caller t).state in (
      child,
      row_at-listed after.rows sound.coherent.rows_rise child (IsIn-insert_new child state.rows),
      λ c i on limit some. limit_holds after sound c i limit some (fork_within state caller t may c.id on),
    )

-- so does every call
step_within : (state : State) (stamp : ℕ) (call : Call) (o : Outcome) → Comes state stamp call o → IsSound o.state
    → ForkedWithinLimits o.state o.reply
step_within state stamp call o (still _ (Forked child root) answer) sound = absurd (cc)
step_within state stamp call o (still _ _ answer) sound = tt
step_within state stamp call o (born n new_space caller plain found stands may) sound =
    forked_within state (as_thread state n caller) (as_thread state n caller).children_space may sound
step_within state stamp call o (born_first n caller found stands shallow here may) sound =
    forked_within (with_space state (as_thread state n caller).children_space stamp) (as_thread state n caller) stamp may sound
step_within state stamp call o _ sound = tt

-- and every run
pub run_within : (opening : State) (first : ℕ) (entries : List Entry) → IsSound opening → IsBelow first opening
    → ForksStayWithinLimits opening first entries
run_within opening first [] sound below = tt
run_within opening first (e ∷ entries) sound below =
    let k = step_keeps opening first e.call sound below in
    (step_within opening first e.call _ (step_comes opening first e.call) k.0, run_within (step opening first e.call).state (first + 1) entries k.0 k.1)
