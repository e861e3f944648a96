-- What stays so while a log grows.
use Rattle.std.proofs.Common.{◌≡◌, ℕ, ◌+◌, ◌<◌, ◌≤◌, ◌++◌, Bool, true, false, not, ◌&&◌, eqb, leb, List, [], ◌∷◌, length, refl, ap, sym, ◌∙◌, arith, subst, inl, inr, length-append}
use Rattle.std.specs.Prelude.{◌⊎◌, ◌==◌, if◌then◌else◌}
use Rattle.std.proofs.lemmas.Bool.Decides.{nat_tests}
use Rattle.host_calls.specs.declared.step.LogOutcome.TheVariants.{Made, Repeated, Gone, Gap}
use Rattle.host_calls.specs.LogRule.{PutEntry, LogItem, is_open_in, last_made, is_next_in, outcome_in, IsMadeAt, HasEntry}
use Rattle.host_calls.specs.LogRule.LogItem.{Opens, Ends, Holds, Other}

-- a fact by whether a test is true
pub by_test : {P : Type 0} (b : Bool) → (b ≡ true → P) → (b ≡ false → P) → P
by_test true on_true on_false = on_true refl
by_test false on_true on_false = on_false refl

pub both : (a b : Bool) → (a && b) ≡ true → (a ≡ true) × (b ≡ true)
both true true e = (refl, refl)
both true false e = cc
both false b e = cc

pub same : (a b : ℕ) → eqb a b ≡ true → a ≡ b
same a b e = grind (arith, nat_tests)

-- what an entry makes of the last number of a session
abbrev last_behind : ℕ → PutEntry → List LogItem → ℕ
last_behind s e log =
    if (s == e.session) && (is_open_in s log && (e.sequence == last_made s log + 1)) then last_made s log + 1 else last_made s log

last_rises : (b : Bool) (n : ℕ) → n ≤ (if b then n + 1 else n)
last_rises true n = omega arith
last_rises false n = omega arith

last_one : (s : ℕ) (item : LogItem) (log : List LogItem) → last_made s log ≤ last_made s (item ∷ log)
last_one s Opens log = omega arith
last_one s (Ends ended) log = omega arith
last_one s Other log = omega arith
last_one s (Holds e) log = last_rises _ (last_made s log)

pub last_more : (s : ℕ) (newer log : List LogItem) → last_made s log ≤ last_made s (newer ++ log)
last_more s [] log = omega arith
last_more s (item ∷ newer) log = omega (arith, last_more s newer log, last_one s item (newer ++ log))

-- a session that has ended stays so
gone_one : (s : ℕ) (item : LogItem) (log : List LogItem) → s ≤ length log → is_open_in s log ≡ false → is_open_in s (item ∷ log) ≡ false
gone_one s Opens log h e = let other : eqb s (length log + 1) ≡ false = grind (arith, nat_tests) in rw (other, e) refl
gone_one s (Ends ended) log h e = rw e (elim (not (eqb s ended)) as (λ b. (b && false) ≡ false) [ true ↦ refl | false ↦ refl ])
gone_one s (Holds entry) log h e = e
gone_one s Other log h e = e

pub gone_more : (s : ℕ) (newer log : List LogItem) → s ≤ length log → is_open_in s log ≡ false → is_open_in s (newer ++ log) ≡ false
gone_more s [] log h e = e
gone_more s (item ∷ newer) log h e =
    gone_one s item (newer ++ log) (omega (arith, length-append newer log)) (gone_more s newer log h e)

-- nothing more is made in it
unmade_one : (s : ℕ) (item : LogItem) (log : List LogItem) → is_open_in s log ≡ false → last_made s (item ∷ log) ≡ last_made s log
unmade_one s Opens log e = refl
unmade_one s (Ends ended) log e = refl
unmade_one s Other log e = refl
unmade_one s (Holds entry) log e =
    rw e (elim (eqb s entry.session) as (λ b. (if b && false then last_made s log + 1 else last_made s log) ≡ last_made s log) [ true ↦ refl | false ↦ refl ])

pub unmade_more : (s : ℕ) (newer log : List LogItem) → s ≤ length log → is_open_in s log ≡ false → last_made s (newer ++ log) ≡ last_made s log
unmade_more s [] log h e = refl
unmade_more s (item ∷ newer) log h e =
    unmade_one s item (newer ++ log) (gone_more s newer log h e) ∙ unmade_more s newer log h e

-- an entry that is made
pub next_is : (e : PutEntry) (log : List LogItem) → is_next_in e log ≡ true → (is_open_in e.session log ≡ true) × (e.sequence ≡ last_made e.session log + 1)
next_is e log h =
    let two = both (is_open_in e.session log) (eqb e.sequence (last_made e.session log + 1)) h in
    (two.0, same e.sequence (last_made e.session log + 1) two.1)

last_behind_next : (e : PutEntry) (log : List LogItem) → is_next_in e log ≡ true → last_made e.session (Holds e ∷ log) ≡ last_made e.session log + 1
last_behind_next e log h =
    let self : eqb e.session e.session ≡ true = grind (arith, nat_tests) in
    rw (self, h) refl

pub made_last : (log : List LogItem) (k : ℕ) (e : PutEntry) → IsMadeAt log k e → e.sequence ≤ last_made e.session log
made_last [] k e h = absurd h
made_last (item ∷ log) k e (inl h) =
    let is : e.sequence ≡ last_made e.session log + 1 = (next_is e log h.2).1 in
    let now : last_made e.session (item ∷ log) ≡ last_made e.session log + 1 =
    subst (λ i. last_made e.session (i ∷ log) ≡ last_made e.session log + 1) (sym h.1) (last_behind_next e log h.2) in
    omega arith
made_last (item ∷ log) k e (inr h) = omega (arith, made_last log k e h, last_one e.session item log)

pub made_some : (log : List LogItem) (k : ℕ) (e : PutEntry) → IsMadeAt log k e → 0 < e.sequence
made_some [] k e h = absurd h
made_some (item ∷ log) k e (inl h) = omega (arith, (next_is e log h.2).1)
made_some (item ∷ log) k e (inr h) = made_some log k e h

pub made_has : (log : List LogItem) (k : ℕ) (e : PutEntry) → IsMadeAt log k e → HasEntry e log
made_has [] k e h = absurd h
made_has (item ∷ log) k e (inl h) = inl h.1
made_has (item ∷ log) k e (inr h) = inr (made_has log k e h)

pub made_more : (newer log : List LogItem) (k : ℕ) (e : PutEntry) → IsMadeAt log k e → IsMadeAt (newer ++ log) k e
made_more [] log k e h = h
made_more (item ∷ newer) log k e h = inr (made_more newer log k e h)

-- two that are made with one number of one session are one
pub made_once :
    (log : List LogItem) (k j : ℕ) (e o : PutEntry) → IsMadeAt log k e → IsMadeAt log j o → e.session ≡ o.session → e.sequence ≡ o.sequence → k ≡ j
made_once [] k j e o h g s n = absurd h
made_once (item ∷ log) k j e o (inl h) (inl g) s n = h.0 ∙ sym g.0
made_once (item ∷ log) k j e o (inl h) (inr g) s n =
    let last : last_made e.session log ≡ last_made o.session log = ap (λ t. last_made t log) s in
    absurd (omega (arith, (next_is e log h.2).1, made_last log j o g))
made_once (item ∷ log) k j e o (inr h) (inl g) s n =
    let last : last_made e.session log ≡ last_made o.session log = ap (λ t. last_made t log) s in
    absurd (omega (arith, (next_is o log g.2).1, made_last log k e h))
made_once (item ∷ log) k j e o (inr h) (inr g) s n = made_once log k j e o h g s n

-- an entry that is never made, wherever it comes: its session has ended before it was made there
pub record IsVoid (e : PutEntry) (log : List LogItem) : Type 0 where
  pub there : e.session ≤ length log
  pub gone : is_open_in e.session log ≡ false
  pub unmade : last_made e.session log < e.sequence

pub void_more : (e : PutEntry) (newer log : List LogItem) → IsVoid e log → IsVoid e (newer ++ log)
void_more e newer log v =
    record {
      there = omega (arith, length-append newer log, v.there);
      gone = gone_more e.session newer log v.there v.gone;
      unmade = omega (arith, unmade_more e.session newer log v.there v.gone, v.unmade);
    }

pub void_never : (e : PutEntry) (newer log : List LogItem) (k : ℕ) → IsVoid e log → IsMadeAt (newer ++ log) k e → ⊥
void_never e newer log k v h = omega (arith, (void_more e newer log v).unmade, made_last (newer ++ log) k e h)

pub has_split : (newer log : List LogItem) (e : PutEntry) → HasEntry e (newer ++ log) → HasEntry e newer ⊎ HasEntry e log
has_split [] log e h = inr h
has_split (item ∷ newer) log e (inl h) = inl (inl h)
has_split (item ∷ newer) log e (inr h) = elim (has_split newer log e h) [ inl a ↦ inl (inr a) | inr b ↦ inr b ]

pub has_front : (newer log : List LogItem) (e : PutEntry) → HasEntry e newer → HasEntry e (newer ++ log)
has_front [] log e h = absurd h
has_front (item ∷ newer) log e (inl h) = inl h
has_front (item ∷ newer) log e (inr h) = inr (has_front newer log e h)

pub has_back : (newer log : List LogItem) (e : PutEntry) → HasEntry e log → HasEntry e (newer ++ log)
has_back [] log e h = h
has_back (item ∷ newer) log e h = inr (has_back newer log e h)

-- where no entry is of a session, nothing is made in it
pub last_none : (s : ℕ) (log : List LogItem) → ((e : PutEntry) → HasEntry e log → e.session ≡ s → ⊥) → last_made s log ≡ 0
last_none s [] h = refl
last_none s (Opens ∷ log) h = last_none s log (λ e g. h e (inr g))
last_none s (Ends ended ∷ log) h = last_none s log (λ e g. h e (inr g))
last_none s (Other ∷ log) h = last_none s log (λ e g. h e (inr g))
last_none s (Holds entry ∷ log) h =
    let other : eqb s entry.session ≡ false =
    by_test (eqb s entry.session) (λ here. absurd (h entry (inl refl) (sym (same s entry.session here)))) (λ there. there) in
    rw other (last_none s log (λ e g. h e (inr g)))

-- what an outcome says
pub made_is : (e : PutEntry) (log : List LogItem) → outcome_in e log ≡ Made → is_next_in e log ≡ true
made_is e log h = made_by (is_open_in e.session log) (leb e.sequence (last_made e.session log)) (eqb e.sequence (last_made e.session log + 1)) h
  where
    made_by : (a b c : Bool) → (if a then (if b then Repeated else if c then Made else Gap) else Gone) ≡ Made → (a && c) ≡ true
    made_by true true c h = cc
    made_by true false true h = refl
    made_by true false false h = cc
    made_by false b c h = cc

pub gone_is : (e : PutEntry) (log : List LogItem) → outcome_in e log ≡ Gone → is_open_in e.session log ≡ false
gone_is e log h = gone_by (is_open_in e.session log) (leb e.sequence (last_made e.session log)) (eqb e.sequence (last_made e.session log + 1)) h
  where
    gone_by : (a b c : Bool) → (if a then (if b then Repeated else if c then Made else Gap) else Gone) ≡ Gone → a ≡ false
    gone_by true true c h = cc
    gone_by true false true h = cc
    gone_by true false false h = cc
    gone_by false b c h = refl

-- an item that is another's
pub append_one : (rest log : List LogItem) (item : LogItem) → (rest ++ item ∷ []) ++ log ≡ rest ++ (item ∷ log)
append_one [] log item = refl
append_one (x ∷ rest) log item = ap (λ l. x ∷ l) (append_one rest log item)

-- an entry of another session, or one that is not the next, is not made
pub last_same : (S : ℕ) (e : PutEntry) (log : List LogItem) → (S ≡ e.session → is_next_in e log ≡ true → ⊥) → last_made S (Holds e ∷ log) ≡ last_made S log
last_same S e log h =
    by_test (eqb S e.session)
    (λ is. by_test (is_open_in S log && eqb e.sequence (last_made S log + 1))
    (λ next. absurd (h (same S e.session is) (subst (λ s. (is_open_in s log && eqb e.sequence (last_made s log + 1)) ≡ true) (same S e.session is) next)))
    (λ not_next. rw (is, not_next) refl))
    (λ other. rw other refl)

pub last_next : (S : ℕ) (e : PutEntry) (log : List LogItem) → e.session ≡ S → is_next_in e log ≡ true → last_made S (Holds e ∷ log) ≡ e.sequence
last_next S e log is h = subst (λ s. last_made s (Holds e ∷ log) ≡ e.sequence) is (last_behind_next e log h ∙ sym (next_is e log h).1)

-- the next entry is made
pub next_made : (e : PutEntry) (log : List LogItem) → is_next_in e log ≡ true → outcome_in e log ≡ Made
next_made e log h =
    let two = both (is_open_in e.session log) (eqb e.sequence (last_made e.session log + 1)) h in
    let above : leb e.sequence (last_made e.session log) ≡ false = high e.sequence (last_made e.session log) (same _ _ two.1) in
    rw (two.0, above, two.1) refl
  where
    high : (a b : ℕ) → a ≡ b + 1 → leb a b ≡ false
    high a b h = grind (arith, nat_tests)

pub last_others : (S : ℕ) (item : LogItem) (log : List LogItem) → ((e : PutEntry) → item ≡ Holds e → ⊥) → last_made S (item ∷ log) ≡ last_made S log
last_others S Opens log h = refl
last_others S (Ends ended) log h = refl
last_others S Other log h = refl
last_others S (Holds e) log h = absurd (h e refl)

-- what was made last is in the log
pub last_has : (S : ℕ) (log : List LogItem) → 0 < last_made S log → (e : PutEntry) × HasEntry e log × (e.session ≡ S) × (e.sequence ≡ last_made S log)
last_has S [] h = absurd (omega arith)
last_has S (Opens ∷ log) h = let it = last_has S log h in (it.0, inr it.1, it.2, it.3)
last_has S (Ends ended ∷ log) h = let it = last_has S log h in (it.0, inr it.1, it.2, it.3)
last_has S (Other ∷ log) h = let it = last_has S log h in (it.0, inr it.1, it.2, it.3)
last_has S (Holds o ∷ log) h =
    by_test (eqb S o.session && (is_open_in S log && eqb o.sequence (last_made S log + 1)))
    (λ next.
    let one = both (eqb S o.session) (is_open_in S log && eqb o.sequence (last_made S log + 1)) next in
    let two = both (is_open_in S log) (eqb o.sequence (last_made S log + 1)) one.1 in
    (o, inl refl, sym (same _ _ one.0), rw next (same _ _ two.1)))
    (λ no_next.
    let it = last_has S log (rw no_next at h) in
    (it.0, inr it.1, it.2, rw no_next it.3))

pub repeated_is : (e : PutEntry) (log : List LogItem) → outcome_in e log ≡ Repeated → e.sequence ≤ last_made e.session log
repeated_is e log h = at_most e.sequence (last_made e.session log) (by (is_open_in e.session log) (leb e.sequence (last_made e.session log)) (eqb e.sequence (last_made e.session log + 1)) h)
  where
    by : (a b c : Bool) → (if a then (if b then Repeated else if c then Made else Gap) else Gone) ≡ Repeated → b ≡ true
    by true true c h = refl
    by true false true h = cc
    by true false false h = cc
    by false b c h = cc

    at_most : (a b : ℕ) → leb a b ≡ true → a ≤ b
    at_most a b h = grind (arith, nat_tests)

pub gap_is : (e : PutEntry) (log : List LogItem) → outcome_in e log ≡ Gap → last_made e.session log + 1 < e.sequence
gap_is e log h = above e.sequence (last_made e.session log) (by (is_open_in e.session log) (leb e.sequence (last_made e.session log)) (eqb e.sequence (last_made e.session log + 1)) h)
  where
    by : (a b c : Bool) → (if a then (if b then Repeated else if c then Made else Gap) else Gone) ≡ Gap → (b ≡ false) × (c ≡ false)
    by true true c h = cc
    by true false true h = cc
    by true false false h = (refl, refl)
    by false b c h = cc

    above : (a b : ℕ) → (leb a b ≡ false) × (eqb a (b + 1) ≡ false) → b + 1 < a
    above a b h = let low = h.0 in let other = h.1 in grind (arith, nat_tests)
