-- What a record holds of its past.
use Rattle.std.specs.Prelude.{IfSome, ◌⊎◌, ◌≤◌, slice_get, option_map}
use Rattle.std.proofs.Common.{◌≡◌, ◌≢◌, ℕ, Bool, true, false, inl, inr, ◌+◌, ◌<◌, get_or, List, [], ◌∷◌, ◌++◌, length, take, drop, Option, Some, None, refl, sym, ap, ◌∙◌, subst, arith}
use Rattle.std.proofs.lemmas.Option.{same_Some, slice_get_cases}
use Rattle.std.proofs.lemmas.List.{take_all, take_more, drop_more, drop_all, length-drop, length-take-le, take-append-drop}
use Rattle.pid_types.specs.declared.entry.Entry.{Entry}
use Rattle.pid_types.specs.Replay.{state_after, calls_of}
use Rattle.pid_types.specs.Sound.{IsSound, IsBelow}
use Rattle.pid_types.specs.State.{State}
use Rattle.pid_types.specs.Step.{step}
use Rattle.kept_past.specs.Opening.{Held}
use Rattle.kept_past.specs.Past.{GoesOn, IsCutOnce, IsPast, Past, Waiting, caught_up, first_starves, past_of}
use Rattle.kept_past.proofs.Along.{state_after-append, state_after-push}

-- a sound state is held, and no entry
pub holds : (held : Held) (ring : List Entry) (lag stamp : ℕ) → lag ≡ 0 → ring ≡ [] → IsSound held.state → IsBelow (stamp + lag) held.state
    → IsPast (Some held) ring lag stamp
holds held ring lag stamp zero none sound below = record {
  within = omega (arith, zero);
  bare = λ e. absurd (cc);
  goes_on = record { sound = sound; below = subst (λ n. IsBelow n held.state) (omega (arith, zero)) below };
  fixed = λ _. zero;
}

nothing_held : (held : Option Held) (stamp : ℕ) (waiting : List Entry) → caught_up held stamp waiting ≡ None → held ≡ None
nothing_held None stamp waiting none = refl
nothing_held (Some held) stamp waiting none = absurd (cc)

-- a sound state is held where none was
pub begins : (held : Option Held) (ring : List Entry) (lag stamp room : ℕ) (next : Held) (state : State) (seen : Past) → IsPast held ring lag stamp → past_of held ring lag stamp room ≡ seen → seen.opening ≡ None
    → next.state ≡ state → IsSound state → IsBelow seen.stamp state → IsPast (Some next) ring lag stamp
begins held ring lag stamp room next state seen past is none same sound below =
    let empty : ring ≡ [] = past.bare (nothing_held held stamp (take lag ring) (ap (λ (p : Past). p.opening) is ∙ none)) in
    holds next ring lag stamp (omega (arith, past.within, ap length empty)) empty
    (subst IsSound (sym same) sound)
    (subst (λ (s : State). IsBelow (stamp + lag) s) (sym same) (subst (λ (n : ℕ). IsBelow n state) (sym (ap (λ (p : Past). p.stamp) is)) below))

-- a snapshot is held in place of another, and no entry
pub anew : (held : Option Held) (before ring : List Entry) (lag stamp more room : ℕ) (next : Held) (state : State) (seen : Past) → past_of held before lag stamp room ≡ seen → seen.waits.many ≡ 0 → more ≡ length before
    → ring ≡ [] → next.state ≡ state → IsSound state → IsBelow (seen.stamp + length seen.entries) state → IsPast (Some next) ring lag (stamp + more)
anew held before ring lag stamp more room next state seen is zero many none same sound below =
    let no_lag : lag ≡ 0 = ap (λ (p : Past). p.waits.many) is ∙ zero in
    let at : seen.stamp + length seen.entries ≡ stamp + more + lag =
    omega (arith, no_lag, many, ap (λ (p : Past). p.stamp) is, ap (λ (p : Past). length p.entries) is, length-drop lag before) in
    holds next ring lag (stamp + more) no_lag none
    (subst IsSound (sym same) sound)
    (subst (λ (s : State). IsBelow (stamp + more + lag) s) (sym same) (subst (λ (n : ℕ). IsBelow n state) at below))

past-is : (p : Past) (o o' : Option State) (f f' : Bool) (es es' : List Entry) (s s' : ℕ) (w : Waiting) (r : ℕ) → p ≡ (let x : Past = record { opening = o; is_fixed = f; entries = es; stamp = s; waits = w; room = r } in x) → o ≡ o' → f ≡ f' → es ≡ es' → s ≡ s'
    → p ≡ (let x : Past = record { opening = o'; is_fixed = f'; entries = es'; stamp = s'; waits = w; room = r } in x)
past-is p o o' f f' es es' s s' w r is a b c d = is ∙ rw (a, b, c, d) refl

-- nothing is held, or a snapshot: so no call waits
none_waits : (held : Option Held) (ring : List Entry) (lag stamp room : ℕ) (state : State) (seen : Past) → IsPast held ring lag stamp → past_of held ring lag stamp room ≡ seen
    → (seen.opening ≡ None) ⊎ (seen.is_fixed ≡ true) × (seen.opening ≡ Some state) → lag ≡ 0
none_waits held ring lag stamp room state seen past is (inl none) = omega (arith, past.within, ap length (past.bare (nothing_held held stamp (take lag ring) (ap (λ (p : Past). p.opening) is ∙ none))))
none_waits held ring lag stamp room state seen past is (inr fixed) = past.fixed (ap (λ (p : Past). p.is_fixed) is ∙ fixed.0)

-- what is held goes on, and so does another that holds the same state
same_goes_on : (held : Option Held) (lag stamp : ℕ) (waiting : List Entry) (next : Held) (state : State) → IfSome held (λ h. GoesOn h stamp) → caught_up held stamp waiting ≡ Some state → waiting ≡ [] → next.state ≡ state → IsSound state
    → IsBelow stamp next.state
same_goes_on None lag stamp waiting next state on caught none same sound = absurd (cc)
same_goes_on (Some held) lag stamp waiting next state on caught none same sound =
    let is : held.state ≡ state = same_Some _ _ (ap (λ (es : List Entry). Some (state_after held.state stamp (calls_of es))) (sym none) ∙ caught) in
    subst (IsBelow stamp) (is ∙ sym same) on.below

-- a table is held in place of a snapshot of the same state, or of nothing
pub exchanged : (held : Option Held) (ring : List Entry) (lag stamp room : ℕ) (next : Held) (state : State) (seen : Past) → IsPast held ring lag stamp → past_of held ring lag stamp room ≡ seen
    → (seen.opening ≡ None) ⊎ (seen.is_fixed ≡ true) × (seen.opening ≡ Some state) → (seen.opening ≡ None → IsBelow seen.stamp state) → next.state ≡ state → IsSound state → IsPast (Some next) ring lag stamp
exchanged held ring lag stamp room next state seen past is (inl none) below same sound = begins held ring lag stamp room next state seen past is none same sound (below none)
exchanged held ring lag stamp room next state seen past is (inr fixed) below same sound =
    let zero : lag ≡ 0 = past.fixed (ap (λ (p : Past). p.is_fixed) is ∙ fixed.0) in
    record {
      within = past.within;
      bare = λ e. absurd (cc);
      goes_on = record {
        sound = subst IsSound (sym same) sound;
        below = same_goes_on held lag stamp (take lag ring) next state past.goes_on (ap (λ (p : Past). p.opening) is ∙ fixed.1) (ap (λ n. take n ring) zero) same sound;
      };
      fixed = λ _. zero;
    }

-- where no call waits, whatever is held makes no difference to what waits
same_waits : (held : Option Held) (next : Held) (ring : List Entry) (lag : ℕ) → lag ≡ 0
    → (let w : Waiting = record { many = lag; may_starve = first_starves (Some next) (take lag ring) } in w) ≡ record { many = lag; may_starve = first_starves held (take lag ring) }
same_waits None next ring lag zero = ap (λ (b : Bool). let w : Waiting = record { many = lag; may_starve = b } in w) (ap (λ n. first_starves (Some next) (take n ring)) zero)
same_waits (Some held) next ring lag zero =
    ap (λ (b : Bool). let w : Waiting = record { many = lag; may_starve = b } in w)
    (ap (λ n. first_starves (Some next) (take n ring)) zero ∙ sym (ap (λ n. first_starves (Some held) (take n ring)) zero))

-- and so only what is held is another
pub exchanged-is : (held : Option Held) (ring : List Entry) (lag stamp room : ℕ) (next : Held) (state : State) (seen : Past) → IsPast held ring lag stamp → past_of held ring lag stamp room ≡ seen
    → (seen.opening ≡ None) ⊎ (seen.is_fixed ≡ true) × (seen.opening ≡ Some state) → next.state ≡ state → next.is_fixed ≡ false
    → past_of (Some next) ring lag stamp room ≡ record seen { opening = Some state; is_fixed = false }
exchanged-is held ring lag stamp room next state seen past is which same moves =
    let zero : lag ≡ 0 = none_waits held ring lag stamp room state seen past is which in
    past-is (past_of (Some next) ring lag stamp room) _ (Some state) _ false _ seen.entries _ seen.stamp _ _ refl
    (ap (λ n. Some (state_after next.state stamp (calls_of (take n ring)))) zero ∙ ap (λ s. Some s) same)
    moves
    (ap (λ (p : Past). p.entries) is)
    (ap (λ (p : Past). p.stamp) is)
    ∙ (ap (λ (w : Waiting). record seen { opening = Some state; is_fixed = false; waits = w; room = room }) (same_waits held next ring lag zero ∙ ap (λ (p : Past). p.waits) is) ∙ ap (λ (r : ℕ). record seen { opening = Some state; is_fixed = false; room = r }) (ap (λ (p : Past). p.room) is))

-- one entry more waits
cut-once : (held : Option Held) (ring : List Entry) (lag stamp room : ℕ) (first : Entry) (seen new : Past) → IsPast held ring lag stamp → past_of held ring lag stamp room ≡ seen → lag < length ring → first ≡ get_or ring lag first
    → new ≡ record (past_of held ring (lag + 1) stamp room) { waits = new.waits; room = new.room } → IsCutOnce first.worker seen new
cut-once None ring lag stamp room first seen new past is within at left = absurd (omega (arith, within, ap length (past.bare refl)))
cut-once (Some held) ring lag stamp room first seen new past is within at left =
    let before : State = state_after held.state stamp (calls_of (take lag ring)) in
    let stamps : seen.stamp ≡ stamp + lag = sym (ap (λ (p : Past). p.stamp) is) in
    let more : take (lag + 1) ring ≡ take lag ring ++ first ∷ [] = take_more ring lag first within ∙ ap (λ (e : Entry). take lag ring ++ e ∷ []) (sym at) in
    let moved : state_after held.state stamp (calls_of (take (lag + 1) ring)) ≡ (step before seen.stamp first.call).state =
    ap (λ es. state_after held.state stamp (calls_of es)) more
    ∙ state_after-push held.state stamp seen.stamp (take lag ring) first (omega (arith, stamps, length-take-le lag ring (omega (arith, within)))) in
    let rest : new.entries ≡ drop (lag + 1) ring = ap (λ (p : Past). p.entries) left in
    record {
      opening = before;
      was = sym (ap (λ (p : Past). p.opening) is);
      first = first;
      were = sym (ap (λ (p : Past). p.entries) is) ∙ (drop_more ring lag first within ∙ (ap (λ (e : Entry). e ∷ drop (lag + 1) ring) (sym at) ∙ ap (λ es. first ∷ es) (sym rest)));
      by = refl;
      left = past-is new _ _ _ _ _ _ _ _ _ _ left (ap (λ (s : State). Some s) moved) (ap (λ (p : Past). p.is_fixed) is) (sym rest) (omega (arith, stamps));
    }

-- whose call the first entry has
abbrev worker_of : Entry → ℕ
worker_of e = e.worker

cut-there : (held : Option Held) (ring : List Entry) (lag stamp room worker : ℕ) (seen new : Past) → IsPast held ring lag stamp → past_of held ring lag stamp room ≡ seen
    → Some worker ≡ option_map worker_of (slice_get ring lag)
    → ((x : Entry) × (lag < length ring) × (slice_get ring lag ≡ Some x) × (get_or ring lag x ≡ x)) ⊎ ((length ring ≤ lag) × (slice_get ring lag ≡ None))
    → new ≡ record (past_of held ring (lag + 1) stamp room) { waits = new.waits; room = new.room } → IsCutOnce worker seen new
cut-there held ring lag stamp room worker seen new past is whose (inl at) left =
    subst (λ (w : ℕ). IsCutOnce w seen new) (sym (same_Some _ _ (whose ∙ ap (option_map worker_of) at.2)))
    (cut-once held ring lag stamp room at.0 seen new past is at.1 (sym at.3) left)
cut-there held ring lag stamp room worker seen new past is whose (inr past_end) left =
    let none : Some worker ≡ None = whose ∙ ap (option_map worker_of) past_end.1 in absurd (cc)

-- one entry more waits, the first of those that are kept
pub cut-first : (held : Option Held) (ring : List Entry) (lag stamp room worker : ℕ) (seen new : Past) → IsPast held ring lag stamp → past_of held ring lag stamp room ≡ seen
    → Some worker ≡ option_map worker_of (slice_get ring lag)
    → new ≡ record (past_of held ring (lag + 1) stamp room) { waits = new.waits; room = new.room } → IsCutOnce worker seen new
cut-first held ring lag stamp room worker seen new past is whose left = cut-there held ring lag stamp room worker seen new past is whose (slice_get_cases ring lag).1 left

-- all entries wait
pub cut-all : (held : Option Held) (ring : List Entry) (lag stamp all room : ℕ) (present : State) (seen new : Past) → IsPast held ring lag stamp → past_of held ring lag stamp room ≡ seen → all ≡ length ring → seen.opening ≢ None
    → ((opening : State) → seen.opening ≡ Some opening → present ≡ state_after opening seen.stamp (calls_of seen.entries))
    → new ≡ record (past_of held ring all stamp room) { waits = new.waits; room = new.room }
    → new ≡ (let x : Past = record { opening = Some present; is_fixed = seen.is_fixed; entries = []; stamp = seen.stamp + length seen.entries; waits = new.waits; room = new.room } in x)
cut-all None ring lag stamp all room present seen new past is many some ends left = absurd (some (sym (ap (λ (p : Past). p.opening) is)))
cut-all (Some held) ring lag stamp all room present seen new past is many some ends left =
    let before : State = state_after held.state stamp (calls_of (take lag ring)) in
    let entries : seen.entries ≡ drop lag ring = sym (ap (λ (p : Past). p.entries) is) in
    let stamps : seen.stamp ≡ stamp + lag = sym (ap (λ (p : Past). p.stamp) is) in
    let whole : take all ring ≡ take lag ring ++ drop lag ring = take_all all ring (omega (arith, many)) ∙ sym (take-append-drop lag ring) in
    let moved : state_after held.state stamp (calls_of (take all ring)) ≡ present =
    ap (λ es. state_after held.state stamp (calls_of es)) whole
    ∙ (state_after-append held.state stamp (take lag ring) (drop lag ring)
    ∙ (ap (λ k. state_after before k (calls_of (drop lag ring))) (omega (arith, stamps, length-take-le lag ring past.within))
    ∙ (ap (λ es. state_after before seen.stamp (calls_of es)) (sym entries)
    ∙ sym (ends before (sym (ap (λ (p : Past). p.opening) is)))))) in
    past-is new _ _ _ _ _ _ _ _ _ _ left (ap (λ (s : State). Some s) moved) (ap (λ (p : Past). p.is_fixed) is) (drop_all all ring (omega (arith, many)))
    (omega (arith, stamps, many, ap length entries, length-drop lag ring, past.within))
