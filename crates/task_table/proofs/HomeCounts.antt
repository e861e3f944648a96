-- The tasks of control groups by key: one ended, one moved, one came, one went.
use Rattle.std.proofs.Common.{◌≡◌, ◌≢◌, ◌⊎◌, inl, inr, ℕ, ◌+◌, ◌-◌, ◌<◌, ◌==◌, ◌&&◌, ◌||◌, nat_lt, not, Bool, true, false, Option, Some, None, option_map, option_and_then, if◌then◌else◌, refl, sym, ap, ◌∙◌, arith}
use Rattle.std.proofs.lemmas.Bool.Decides.{nat_tests}
use Rattle.std.specs.Option.{option_map_or}
use Rattle.std.proofs.lemmas.Bool.{cases_eq, eq-eqb, eqb-true}
use Rattle.pids_charge.specs.Charges.{Charges, Home, home_at, live_at, zombies_at, stands, kept, after_move, ChangesHome}
use Rattle.task_tree.specs.declared.Task.{Task}
use Rattle.task_tree.specs.Tree.{lives}
use Rattle.task_table.specs.Store.{one_if, lives_in, waits_in, home_without}

abbrev after_death : Home → Home
after_death h = record h { live = h.live - 1; zombies = h.zombies + 1 }

module _ (old new : Charges) (s t : Task) (change : ChangesHome old new s.home (option_map after_death (home_at old s.home)))
    (live : lives s ≡ true) (ended : lives t ≡ false) (home : t.home ≡ s.home) (some : 0 < live_at old s.home) where
  there : (o : Option Home) → home_at old s.home ≡ o → (h : Home) × (home_at old s.home ≡ Some h)
  there None e = absurd (let z : live_at old s.home ≡ 0 = ap (λ o. option_map_or (λ h. h.live) o 0) e in omega (arith, z, some))
  there (Some h) e = (h, e)

  pub live-died : (c : ℕ) → live_at new c + one_if (lives_in c (Some s)) ≡ live_at old c + one_if (lives_in c (Some t))
  live-died c =
      let h = there (home_at old s.home) refl in
      let was : live_at old s.home ≡ h.0.live = ap (λ o. option_map_or (λ h. h.live) o 0) h.1 in
      let now : live_at new s.home ≡ h.0.live - 1 = ap (λ o. option_map_or (λ h. h.live) o 0) (change.here ∙ ap (option_map after_death) h.1) in
      let a = ap (λ b. one_if ((s.home == c) && b)) live in
      let b = ap (λ b. one_if ((t.home == c) && b)) ended in
      elim (cases_eq s.home c) [
        | inl same ↦
            (let on = ap (λ b. one_if (b && true)) (eq-eqb s.home c same) in
            let off = no (t.home == c) in
            let x = ap (live_at old) same in
            let y = ap (live_at new) same in
            omega (arith, was, now, a, b, on, off, x, y, some))
        | inr differs ↦
            (let z : (s.home == c) ≡ false = grind (arith, differs) in
            let on = ap (λ b. one_if (b && true)) z in
            let off = no (t.home == c) in
            let x = ap (λ o. option_map_or (λ h. h.live) o 0) (change.others c (λ e. differs (sym e))) in
            omega (arith, a, b, on, off, x))
      ]
    where
      no : (b : Bool) → one_if (b && false) ≡ 0
      no true = refl
      no false = refl

  pub zombies-died : (c : ℕ) → zombies_at new c + one_if (waits_in c (Some s)) ≡ zombies_at old c + one_if (waits_in c (Some t))
  zombies-died c =
      let h = there (home_at old s.home) refl in
      let was : zombies_at old s.home ≡ h.0.zombies = ap (λ o. option_map_or (λ h. h.zombies) o 0) h.1 in
      let now : zombies_at new s.home ≡ h.0.zombies + 1 = ap (λ o. option_map_or (λ h. h.zombies) o 0) (change.here ∙ ap (option_map after_death) h.1) in
      let a = ap (λ b. one_if ((s.home == c) && not b)) live in
      let b = ap (λ b. one_if ((t.home == c) && not b)) ended in
      let off = no (s.home == c) in
      elim (cases_eq s.home c) [
        | inl same ↦
            (let on = ap (λ b. one_if (b && true)) (eq-eqb t.home c (home ∙ same)) in
            let x = ap (zombies_at old) same in
            let y = ap (zombies_at new) same in
            omega (arith, was, now, a, b, on, off, x, y))
        | inr differs ↦
            (let z : (t.home == c) ≡ false = grind (arith, differs, home) in
            let on = ap (λ b. one_if (b && true)) z in
            let x = ap (λ o. option_map_or (λ h. h.zombies) o 0) (change.others c (λ e. differs (sym e))) in
            omega (arith, a, b, on, off, x))
      ]
    where
      no : (b : Bool) → one_if (b && false) ≡ 0
      no true = refl
      no false = refl

module _ (old new : Charges) (s : Task) (to : ℕ) (homes : (k : ℕ) → home_at new k ≡ option_map (after_move s.home to k) (home_at old k)) (live : lives s ≡ true) where
  pub live-moved : 0 < live_at old s.home → stands old to ≡ true → (c : ℕ) → live_at new c + one_if (lives_in c (Some s)) ≡ live_at old c + one_if (lives_in c (Some (record s { home = to })))
  live-moved some up c = go (home_at old c) refl
    where
      a : one_if (lives_in c (Some s)) ≡ one_if ((s.home == c) && true)
      a = ap (λ b. one_if ((s.home == c) && b)) live

      b : one_if (lives_in c (Some (record s { home = to }))) ≡ one_if ((to == c) && true)
      b = ap (λ b. one_if ((to == c) && b)) live

      empty : (k : ℕ) → home_at old k ≡ None → live_at old k ≡ 0
      empty k e = ap (λ o. option_map_or (λ h. h.live) o 0) e

      at_to : home_at old to ≡ None → ⊥
      at_to e = let z : false ≡ true = sym (ap (λ o. option_map_or (λ h. h.stands) o false) e) ∙ up in cc

      flip : (m n : ℕ) → (m == n) ≡ (n == m)
      flip m n = elim (cases_eq m n) [
        | inl same ↦ eq-eqb m n same ∙ sym (eq-eqb n m (sym same))
        | inr differs ↦ (let x : (m == n) ≡ false = grind (arith, differs) in let y : (n == m) ≡ false = grind (arith, differs) in x ∙ sym y)
      ]

      go : (o : Option Home) → home_at old c ≡ o → live_at new c + one_if (lives_in c (Some s)) ≡ live_at old c + one_if (lives_in c (Some (record s { home = to })))
      go None e =
          let was = empty c e in
          let now : live_at new c ≡ 0 = ap (λ o. option_map_or (λ h. h.live) o 0) (homes c ∙ ap (option_map (after_move s.home to c)) e) in
          let p : (s.home == c) ≡ false = elim (cases_eq s.home c) [
            | inl same ↦ absurd (let z = empty s.home (ap (home_at old) same ∙ e) in omega (arith, z, some))
            | inr differs ↦ grind (arith, differs)
          ] in
          let q : (to == c) ≡ false = elim (cases_eq to c) [
            | inl same ↦ absurd (at_to (ap (home_at old) same ∙ e))
            | inr differs ↦ grind (arith, differs)
          ] in
          let x = ap (λ b. one_if (b && true)) p in
          let y = ap (λ b. one_if (b && true)) q in
          omega (arith, was, now, a, b, x, y)
      go (Some h) e =
          let was : live_at old c ≡ h.live = ap (λ o. option_map_or (λ h. h.live) o 0) e in
          let now : live_at new c ≡ h.live - (if c == s.home then 1 else 0) + (if c == to then 1 else 0) = ap (λ o. option_map_or (λ h. h.live) o 0) (homes c ∙ ap (option_map (after_move s.home to c)) e) in
          count h (c == s.home) (c == to) was now (a ∙ ap (λ b. one_if (b && true)) (flip s.home c)) (b ∙ ap (λ b. one_if (b && true)) (flip to c))
          (λ on. let same = eqb-true c s.home on in let z = ap (live_at old) same in omega (arith, z, some, was))
        where
          count : (h : Home) (p q : Bool) → live_at old c ≡ h.live → live_at new c ≡ h.live - (if p then 1 else 0) + (if q then 1 else 0)
              → one_if (lives_in c (Some s)) ≡ one_if (p && true) → one_if (lives_in c (Some (record s { home = to }))) ≡ one_if (q && true) → (p ≡ true → 0 < h.live)
              → live_at new c + one_if (lives_in c (Some s)) ≡ live_at old c + one_if (lives_in c (Some (record s { home = to })))
          count h true true was now a b some = let z = some refl in omega (arith, was, now, a, b, z)
          count h true false was now a b some = let z = some refl in omega (arith, was, now, a, b, z)
          count h false true was now a b some = omega (arith, was, now, a, b)
          count h false false was now a b some = omega (arith, was, now, a, b)

  pub zombies-moved : (c : ℕ) → zombies_at new c + one_if (waits_in c (Some s)) ≡ zombies_at old c + one_if (waits_in c (Some (record s { home = to })))
  zombies-moved c =
      let a = ap (λ b. one_if ((s.home == c) && not b)) live in
      let b = ap (λ b. one_if ((to == c) && not b)) live in
      let x = no (s.home == c) in
      let y = no (to == c) in
      let z : zombies_at new c ≡ zombies_at old c = ap (λ o. option_map_or (λ h. h.zombies) o 0) (homes c) ∙ same (home_at old c) in
      omega (arith, a, b, x, y, z)
    where
      no : (b : Bool) → one_if (b && false) ≡ 0
      no true = refl
      no false = refl

      same : (o : Option Home) → option_map_or (λ h. h.zombies) (option_map (after_move s.home to c) o) 0 ≡ option_map_or (λ h. h.zombies) o 0
      same None = refl
      same (Some h) = refl

pub kept-live : (h : Home) → option_map_or (λ h. h.live) (kept h) 0 ≡ h.live
kept-live h = go (h.stands || nat_lt 0 (h.live + h.zombies)) refl
  where
    go : (b : Bool) → (h.stands || nat_lt 0 (h.live + h.zombies)) ≡ b → option_map_or (λ h. h.live) (if b then Some h else None) 0 ≡ h.live
    go true e = refl
    go false e = grind (arith, nat_tests, e)

pub kept-zombies : (h : Home) → option_map_or (λ h. h.zombies) (kept h) 0 ≡ h.zombies
kept-zombies h = go (h.stands || nat_lt 0 (h.live + h.zombies)) refl
  where
    go : (b : Bool) → (h.stands || nat_lt 0 (h.live + h.zombies)) ≡ b → option_map_or (λ h. h.zombies) (if b then Some h else None) 0 ≡ h.zombies
    go true e = refl
    go false e = grind (arith, nat_tests, e)

module _ (old new : Charges) (t : Task) (change : ChangesHome old new t.home (option_and_then (λ (h : Home). kept (home_without t h)) (home_at old t.home))) where
  -- what is counted at a key, by what is counted of a home
  at_home : (of : Home → ℕ) → ((h : Home) → option_map_or of (kept h) 0 ≡ of h) → (h : Home) → home_at old t.home ≡ Some h → (c : ℕ) → (c ≡ t.home) ⊎ (c ≢ t.home)
      → ((c ≡ t.home) × (option_map_or of (home_at new c) 0 ≡ of (home_without t h)) × (option_map_or of (home_at old c) 0 ≡ of h)) ⊎ ((c ≢ t.home) × (option_map_or of (home_at new c) 0 ≡ option_map_or of (home_at old c) 0))
  at_home of keeps h is c (inl same) = inl (
    same,
    ap (λ k. option_map_or of (home_at new k) 0) same ∙ ap (λ o. option_map_or of o 0) (change.here ∙ ap (option_and_then (λ (h : Home). kept (home_without t h))) is) ∙ keeps (home_without t h),
    ap (λ k. option_map_or of (home_at old k) 0) same ∙ ap (λ o. option_map_or of o 0) is,
  )
  at_home of keeps h is c (inr differs) = inr (differs, ap (λ o. option_map_or of o 0) (change.others c differs))

  home_there : (of : Home → ℕ) → 0 < option_map_or of (home_at old t.home) 0 → (h : Home) × (home_at old t.home ≡ Some h)
  home_there of some = go (home_at old t.home) refl some
    where
      go : (o : Option Home) → home_at old t.home ≡ o → 0 < option_map_or of o 0 → (h : Home) × (home_at old t.home ≡ Some h)
      go None e some = absurd (omega (arith, some))
      go (Some h) e some = (h, e)

  -- a live task went
  pub live-left : lives t ≡ true → 0 < live_at old t.home → (c : ℕ) → (live_at new c + one_if (lives_in c (Some t)) ≡ live_at old c) × (zombies_at new c + one_if (waits_in c (Some t)) ≡ zombies_at old c)
  live-left live some c =
      let h = home_there (λ h. h.live) some in
      let was : live_at old t.home ≡ h.0.live = ap (λ o. option_map_or (λ h. h.live) o 0) h.1 in
      let less : home_without t h.0 ≡ record h.0 { live = h.0.live - 1 } = ap (λ b. if b then record h.0 { live = h.0.live - 1 } else record h.0 { zombies = h.0.zombies - 1 }) live in
      let a : one_if (lives_in c (Some t)) ≡ one_if ((t.home == c) && true) = ap (λ b. one_if ((t.home == c) && b)) live in
      let b : one_if (waits_in c (Some t)) ≡ 0 = ap (λ b. one_if ((t.home == c) && not b)) live ∙ none (t.home == c) in
      let e = at_home (λ h. h.live) kept-live h.0 h.1 c (cases_eq c t.home) in
      let f = at_home (λ h. h.zombies) kept-zombies h.0 h.1 c (cases_eq c t.home) in (
        elim e [
          | inl q ↦ (let on = ap (λ b. one_if (b && true)) (eq-eqb t.home c (sym q.0)) in let x = ap (λ (h : Home). h.live) less in let n = q.1 in let o = q.2 in omega (arith, n, o, x, a, on, was, some))
          | inr q ↦ (let z : (t.home == c) ≡ false = off c q.0 in let on = ap (λ b. one_if (b && true)) z in let n = q.1 in omega (arith, n, a, on))
        ],
        elim f [
          | inl q ↦ (let x = ap (λ (h : Home). h.zombies) less in let n = q.1 in let o = q.2 in omega (arith, n, o, x, b))
          | inr q ↦ (let n = q.1 in omega (arith, n, b))
        ],
      )
    where
      none : (b : Bool) → one_if (b && false) ≡ 0
      none true = refl
      none false = refl

      off : (c : ℕ) → c ≢ t.home → (t.home == c) ≡ false
      off c differs = grind (arith, differs)

  -- a zombie went
  pub zombie-left : lives t ≡ false → 0 < zombies_at old t.home → (c : ℕ) → (live_at new c + one_if (lives_in c (Some t)) ≡ live_at old c) × (zombies_at new c + one_if (waits_in c (Some t)) ≡ zombies_at old c)
  zombie-left ended some c =
      let h = home_there (λ h. h.zombies) some in
      let was : zombies_at old t.home ≡ h.0.zombies = ap (λ o. option_map_or (λ h. h.zombies) o 0) h.1 in
      let less : home_without t h.0 ≡ record h.0 { zombies = h.0.zombies - 1 } = ap (λ b. if b then record h.0 { live = h.0.live - 1 } else record h.0 { zombies = h.0.zombies - 1 }) ended in
      let a : one_if (waits_in c (Some t)) ≡ one_if ((t.home == c) && true) = ap (λ b. one_if ((t.home == c) && not b)) ended in
      let b : one_if (lives_in c (Some t)) ≡ 0 = ap (λ b. one_if ((t.home == c) && b)) ended ∙ none (t.home == c) in
      let e = at_home (λ h. h.zombies) kept-zombies h.0 h.1 c (cases_eq c t.home) in
      let f = at_home (λ h. h.live) kept-live h.0 h.1 c (cases_eq c t.home) in (
        elim f [
          | inl q ↦ (let x = ap (λ (h : Home). h.live) less in let n = q.1 in let o = q.2 in omega (arith, n, o, x, b))
          | inr q ↦ (let n = q.1 in omega (arith, n, b))
        ],
        elim e [
          | inl q ↦ (let on = ap (λ b. one_if (b && true)) (eq-eqb t.home c (sym q.0)) in let x = ap (λ (h : Home). h.zombies) less in let n = q.1 in let o = q.2 in omega (arith, n, o, x, a, on, was, some))
          | inr q ↦ (let z : (t.home == c) ≡ false = off c q.0 in let on = ap (λ b. one_if (b && true)) z in let n = q.1 in omega (arith, n, a, on))
        ],
      )
    where
      none : (b : Bool) → one_if (b && false) ≡ 0
      none true = refl
      none false = refl

      off : (c : ℕ) → c ≢ t.home → (t.home == c) ≡ false
      off c differs = grind (arith, differs)

  -- a task went
  pub one-left : (lives t ≡ true → 0 < live_at old t.home) → (lives t ≡ false → 0 < zombies_at old t.home) → (c : ℕ)
      → (live_at new c + one_if (lives_in c (Some t)) ≡ live_at old c) × (zombies_at new c + one_if (waits_in c (Some t)) ≡ zombies_at old c)
  one-left live ended c = go (lives t) refl
    where
      go : (b : Bool) → lives t ≡ b → (live_at new c + one_if (lives_in c (Some t)) ≡ live_at old c) × (zombies_at new c + one_if (waits_in c (Some t)) ≡ zombies_at old c)
      go true e = live-left e (live e) c
      go false e = zombie-left e (ended e) c

-- a live task came
pub one-came : (old new : Charges) (t : Task) → ChangesHome old new t.home (option_map (λ (h : Home). record h { live = h.live + 1 }) (home_at old t.home)) → lives t ≡ true → stands old t.home ≡ true → (c : ℕ)
    → (live_at new c ≡ live_at old c + one_if (lives_in c (Some t))) × (zombies_at new c ≡ zombies_at old c + one_if (waits_in c (Some t)))
one-came old new t change live up c = go (home_at old t.home) refl (cases_eq c t.home)
  where
    a : one_if (lives_in c (Some t)) ≡ one_if ((t.home == c) && true)
    a = ap (λ b. one_if ((t.home == c) && b)) live

    none : (b : Bool) → one_if (b && false) ≡ 0
    none true = refl
    none false = refl

    b : one_if (waits_in c (Some t)) ≡ 0
    b = ap (λ b. one_if ((t.home == c) && not b)) live ∙ none (t.home == c)

    go : (o : Option Home) → home_at old t.home ≡ o → (c ≡ t.home) ⊎ (c ≢ t.home)
        → (live_at new c ≡ live_at old c + one_if (lives_in c (Some t))) × (zombies_at new c ≡ zombies_at old c + one_if (waits_in c (Some t)))
    go None e q = absurd (let z : false ≡ true = sym (ap (λ o. option_map_or (λ h. h.stands) o false) e) ∙ up in cc)
    go (Some h) e (inl same) =
        let on = ap (λ b. one_if (b && true)) (eq-eqb t.home c (sym same)) in
        let now = change.here ∙ ap (option_map (λ (h : Home). record h { live = h.live + 1 })) e in
        let l : live_at new c ≡ h.live + 1 = ap (live_at new) same ∙ ap (λ o. option_map_or (λ h. h.live) o 0) now in
        let m : live_at old c ≡ h.live = ap (live_at old) same ∙ ap (λ o. option_map_or (λ h. h.live) o 0) e in
        let x : zombies_at new c ≡ h.zombies = ap (zombies_at new) same ∙ ap (λ o. option_map_or (λ h. h.zombies) o 0) now in
        let y : zombies_at old c ≡ h.zombies = ap (zombies_at old) same ∙ ap (λ o. option_map_or (λ h. h.zombies) o 0) e in
        (omega (arith, a, on, l, m), omega (arith, b, x, y))
    go (Some h) e (inr differs) =
        let off : (t.home == c) ≡ false = grind (arith, differs) in
        let on = ap (λ b. one_if (b && true)) off in
        let l = ap (λ o. option_map_or (λ h. h.live) o 0) (change.others c differs) in
        let x = ap (λ o. option_map_or (λ h. h.zombies) o 0) (change.others c differs) in
        (omega (arith, a, on, l), omega (arith, b, x))
