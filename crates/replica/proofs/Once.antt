-- The entries of a session are made in the order of their numbers, each once.
use Rattle.std.proofs.Common.{◌≡◌, ◌⊎◌, inl, inr, ℕ, ◌+◌, ◌≤◌, true, false, eqb, leb, List, [], ◌∷◌, Option, Some, None, refl, sym, ap, ◌∙◌, subst, arith}
use Rattle.std.proofs.lemmas.Option.{none-some, same_Some}
use Rattle.pid_script.proofs.Cuts.{by_test, same_eqb}
use Rattle.replica.specs.Entries.{LogEntry, Settings, Opened, Ended, Calls, Wanted, Announced}
use Rattle.replica.specs.declared.outcome.Outcome.{Outcome}
use Rattle.replica.specs.declared.outcome.Outcome.TheVariants as outcome
use Rattle.replica.specs.Replicas.{Replica, applied, called, begins, outcome_at, outcome_of, used, without_key}
use Rattle.replica.specs.Laws.{made_in_session, made_in, HasRisingPositions, Follow, EachIsMadeOnce}
use Rattle.replica.proofs.Found.{found, same_number, found_without, found_other, found_used, found_used_other}

-- one entry at a position: nothing of the session is made, and the session stays, is gone, or opens there; or its next number is made
abbrev Moves : ℕ → ℕ → Option ℕ → List ℕ → Option ℕ → Type 0
Moves position session o ns o' =
    ((ns ≡ []) × ((o' ≡ o) ⊎ ((o' ≡ None) ⊎ ((eqb session position ≡ true) × (o' ≡ Some 0)))))
    ⊎ ((last : ℕ) × (o ≡ Some last) × (ns ≡ (last + 1) ∷ []) × (o' ≡ Some (last + 1)))

option_cases : {A P : Type 0} (o : Option A) → (o ≡ None → P) → ((x : A) → o ≡ Some x → P) → P
option_cases None none some = none refl
option_cases (Some x) none some = some x refl

abbrev MovesBy : ℕ → Replica → ℕ → LogEntry → Type 0
MovesBy session r position e = Moves position session (found session r.log.sessions) (made_in_session session e (outcome_at r e)) (found session (applied r position e).log.sessions)

begins_same : (r : Replica) (e : LogEntry) (form : ℕ) → (begins r.log e form).sessions ≡ r.log.sessions
begins_same r e form = by_test r.log.begun (λ begun. rw begun refl) (λ not_begun. rw not_begun refl)

opens : (session position : ℕ) (r : Replica) → MovesBy session r position Opened
opens session position r =
    by_test (eqb session position)
    (λ same. inl (refl, inr (inr (same, subst (λ k. found session (used k 0 r.log.sessions) ≡ Some 0) (same_number session position same) (found_used session 0 r.log.sessions)))))
    (λ differ. elim (found_used_other session position 0 r.log.sessions differ) [ inl stays ↦ inl (refl, inl stays) | inr gone ↦ inl (refl, inr (inl gone)) ])

ends : (session position k : ℕ) (r : Replica) → MovesBy session r position (Ended k)
ends session position k r =
    by_test (eqb session k)
    (λ same. inl (refl, inr (inl (subst (λ k. found session (without_key k r.log.sessions) ≡ None) (same_number session k same) (found_without session r.log.sessions)))))
    (λ differ. inl (refl, inl (found_other session k r.log.sessions differ)))

module _ (session position : ℕ) (r : Replica) (n q : ℕ) (d : List ℕ) (ls : List (List ℕ)) where
  -- calls of another session
  others : (k : ℕ) → eqb session k ≡ false → (what : Outcome)
      → Moves position session (found session r.log.sessions) (made_in_session session (Calls k n q d ls) what) (found session (called r k n ls what).log.sessions)
  others k differ outcome.Made =
      elim (found_used_other session k n r.log.sessions differ) [
        | inl stays ↦ inl (rw differ refl, inl stays)
        | inr gone ↦ inl (rw differ refl, inr (inl gone))
      ]
  others k differ outcome.Repeated = inl (refl, inl refl)
  others k differ outcome.Gone = inl (refl, inl refl)
  others k differ outcome.Gap = inl (refl, inl refl)
  others k differ outcome.Noted = inl (refl, inl refl)

  abbrev OwnBy : Outcome → Type 0
  OwnBy what = Moves position session (found session r.log.sessions) (made_in_session session (Calls session n q d ls) what) (found session (called r session n ls what).log.sessions)

  next : (last : ℕ) → found session r.log.sessions ≡ Some last → n ≡ last + 1 → OwnBy outcome.Made
  next last here is =
      inr (last, here, rw (same_eqb session) (ap (λ m. m ∷ []) is), found_used session n r.log.sessions ∙ ap Some is)

  by_last : (last : ℕ) → found session r.log.sessions ≡ Some last → OwnBy (outcome_of (Some last) n)
  by_last last here =
      by_test (leb n last)
      (λ low. subst OwnBy (sym (low_is low)) (inl (refl, inl refl)))
      (λ high. by_test (eqb n (last + 1))
      (λ one. subst OwnBy (sym (next_is high one)) (next last here (same_number n (last + 1) one)))
      (λ far. subst OwnBy (sym (far_is high far)) (inl (refl, inl refl))))
    where
      low_is : leb n last ≡ true → outcome_of (Some last) n ≡ outcome.Repeated
      low_is low = rw low refl

      next_is : leb n last ≡ false → eqb n (last + 1) ≡ true → outcome_of (Some last) n ≡ outcome.Made
      next_is high one = rw (high, one) refl

      far_is : leb n last ≡ false → eqb n (last + 1) ≡ false → outcome_of (Some last) n ≡ outcome.Gap
      far_is high far = rw (high, far) refl

  -- calls of the session
  own : OwnBy (outcome_of (found session r.log.sessions) n)
  own =
      option_cases (found session r.log.sessions)
      (λ none. subst (λ o. OwnBy (outcome_of o n)) (sym none) (inl (refl, inl refl)))
      (λ last here. subst (λ o. OwnBy (outcome_of o n)) (sym here) (by_last last here))

calls : (session position k n q : ℕ) (d : List ℕ) (ls : List (List ℕ)) (r : Replica) → MovesBy session r position (Calls k n q d ls)
calls session position k n q d ls r =
    by_test (eqb session k)
    (λ same. subst (λ k. MovesBy session r position (Calls k n q d ls)) (same_number session k same) (own session position r n q d ls))
    (λ differ. others session position r n q d ls k differ (outcome_of (found k r.log.sessions) n))

moves : (session position : ℕ) (r : Replica) (e : LogEntry) → MovesBy session r position e
moves session position r (Settings form pid_max model) = inl (refl, inl (ap (found session) (begins_same r (Settings form pid_max model) form)))
moves session position r Opened = opens session position r
moves session position r (Ended k) = ends session position k r
moves session position r (Calls k n q d ls) = calls session position k n q d ls r
moves session position r Wanted = inl (refl, inl refl)
moves session position r (Announced p d b sum key) = inl (refl, inl refl)

none_some : {P : Type 0} (o : Option ℕ) (x : ℕ) → o ≡ None → o ≡ Some x → P
none_some o x none some = absurd (none-some x (sym none ∙ some))

-- a session that is not open, and cannot open any more
gone : (session : ℕ) (log : List (ℕ × LogEntry)) (r : Replica) → found session r.log.sessions ≡ None → session ≤ r.log.position → HasRisingPositions r.log.position log → made_in session r log ≡ []
gone session [] r none before rises = refl
gone session (one ∷ log) r none before rises =
    let later = gone session log (applied r one.0 one.1) in
    elim (moves session one.0 r one.1) [
      | inl quiet ↦ elim quiet.1 [
        | inl stays ↦ rw quiet.0 (later (stays ∙ none) (omega (arith, before, rises.0)) rises.1)
        | inr other ↦ elim other [
          | inl away ↦ rw quiet.0 (later away (omega (arith, before, rises.0)) rises.1)
          | inr opened ↦ let same = same_number session one.0 opened.0 in absurd (omega (arith, same, before, rises.0))
        ]
      ]
      | inr counted ↦ none_some (found session r.log.sessions) counted.0 none counted.1
    ]

-- one that is open
going : (session last : ℕ) (log : List (ℕ × LogEntry)) (r : Replica) → found session r.log.sessions ≡ Some last → session ≤ r.log.position → HasRisingPositions r.log.position log
    → Follow last (made_in session r log)
going session last [] r here before rises = tt
going session last (one ∷ log) r here before rises =
    let after = applied r one.0 one.1 in
    elim (moves session one.0 r one.1) [
      | inl quiet ↦ elim quiet.1 [
        | inl stays ↦ rw quiet.0 (going session last log after (stays ∙ here) (omega (arith, before, rises.0)) rises.1)
        | inr other ↦ elim other [
          | inl away ↦ rw (quiet.0, gone session log after away (omega (arith, before, rises.0)) rises.1) tt
          | inr opened ↦ let same = same_number session one.0 opened.0 in absurd (omega (arith, same, before, rises.0))
        ]
      ]
      | inr counted ↦
          let is : last ≡ counted.0 = same_Some last counted.0 (sym here ∙ counted.1) in
          rw counted.2 (ap (λ m. m + 1) (sym is), going session (counted.0 + 1) log after counted.3 (omega (arith, before, rises.0)) rises.1)
    ]

-- one that is not open
fresh : (session : ℕ) (log : List (ℕ × LogEntry)) (r : Replica) → found session r.log.sessions ≡ None → HasRisingPositions r.log.position log → Follow 0 (made_in session r log)
fresh session [] r none rises = tt
fresh session (one ∷ log) r none rises =
    let after = applied r one.0 one.1 in
    elim (moves session one.0 r one.1) [
      | inl quiet ↦ elim quiet.1 [
        | inl stays ↦ rw quiet.0 (fresh session log after (stays ∙ none) rises.1)
        | inr other ↦ elim other [
          | inl away ↦ rw quiet.0 (fresh session log after away rises.1)
          | inr opened ↦
              let same = same_number session one.0 opened.0 in
              rw quiet.0 (going session 0 log after opened.1 (omega (arith, same)) rises.1)
        ]
      ]
      | inr counted ↦ none_some (found session r.log.sessions) counted.0 none counted.1
    ]

pub each_once : EachIsMadeOnce
each_once r log session empty rises = fresh session log r (ap (found session) empty) rises
