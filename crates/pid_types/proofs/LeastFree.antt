-- The least free number of a list, and the draw.
use Rattle.std.proofs.Common.{◌≡◌, ℕ, zero, suc, ◌+◌, ◌<◌, ◌≤◌, max, Bool, true, false, cond, leb, List, [], ◌∷◌, length, Some, None, refl, subst, arith, ◌⊎◌, inl, inr}
use Rattle.std.specs.Prelude.{nat_lt, ◌==◌}
use Rattle.std.proofs.lemmas.Bool.{ltb-true, cases_Bool, or_cases, cond_both, cases_eq, cases_order}
use Rattle.std.proofs.lemmas.Bool.Decides.{nat_tests}
use Rattle.pid_types.specs.Chains.{contains, first_absent}
use Rattle.pid_types.specs.Draw.{least_free, restart, cyclic_draw}

-- how many of the numbers are at or above n
above : List ℕ → ℕ → ℕ
above [] n = 0
above (m ∷ ms) n = cond (leb n m) 1 0 + above ms n

above-le-length : (ns : List ℕ) (n : ℕ) → above ns n ≤ length ns
unfolding above
above-le-length [] n = omega arith
above-le-length (m ∷ ms) n = cond_both (leb n m) 1 0 (λ x. x + above ms n ≤ length (m ∷ ms)) (λ _. omega (arith, above-le-length ms n)) (λ _. omega (arith, above-le-length ms n))

above_more : (ns : List ℕ) (n : ℕ) → above ns (n + 1) ≤ above ns n
unfolding above
above_more [] n = omega arith
above_more (m ∷ ms) n = grind (arith, nat_tests, above_more ms n)

above_falls : (ns : List ℕ) (n : ℕ) → contains ns n ≡ true → above ns (n + 1) < above ns n
unfolding above
above_falls [] n h = cc
above_falls (m ∷ ms) n h = elim (or_cases (m == n) (contains ms n) h) [
  | inl e ↦ grind (arith, nat_tests, above_more ms n, e)
  | inr e ↦ grind (arith, nat_tests, above_falls ms n e)
]

first_absent-passed : (ns : List ℕ) (most n : ℕ) → contains ns n ≡ true → first_absent ns (suc most) n ≡ first_absent ns most (n + 1)
first_absent-passed ns most n h = rw (h, first_absent) refl

first_absent-here : (ns : List ℕ) (most n : ℕ) → contains ns n ≡ false → first_absent ns (suc most) n ≡ n
first_absent-here ns most n h = rw (h, first_absent) refl

first_absent-absent : (ns : List ℕ) (most n : ℕ) → above ns n ≤ most → contains ns (first_absent ns most n) ≡ false
first_absent-absent ns zero n h = elim (cases_Bool (contains ns n)) [ inl e ↦ absurd (omega (arith, above_falls ns n e)) | inr e ↦ e ]
first_absent-absent ns (suc most) n h = elim (cases_Bool (contains ns n)) [
  | inl e ↦ rw (first_absent-passed ns most n e) (first_absent-absent ns most (n + 1) (omega (arith, above_falls ns n e)))
  | inr e ↦ rw (first_absent-here ns most n e) e
]

first_absent-from : (ns : List ℕ) (most n : ℕ) → n ≤ first_absent ns most n
first_absent-from ns zero n = omega arith
first_absent-from ns (suc most) n = elim (cases_Bool (contains ns n)) [
  | inl e ↦ omega (arith, first_absent-passed ns most n e, first_absent-from ns most (n + 1))
  | inr e ↦ omega (arith, first_absent-here ns most n e)
]

first_absent-least : (ns : List ℕ) (most n m : ℕ) → n ≤ m → m < first_absent ns most n → contains ns m ≡ true
first_absent-least ns zero n m h l = absurd (omega arith)
first_absent-least ns (suc most) n m h l = elim (cases_Bool (contains ns n)) [
  | inl e ↦ elim (cases_eq n m) [
    | inl same ↦ subst (λ x. contains ns x ≡ true) same e
    | inr other ↦ first_absent-least ns most (n + 1) m (omega arith) (omega (arith, first_absent-passed ns most n e))
  ]
  | inr e ↦ absurd (omega (arith, first_absent-here ns most n e))
]

-- The number is the least one from n on that is not in the list.
pub record IsLeastFree (ns : List ℕ) (n r : ℕ) : Type 0 where
  pub absent : contains ns r ≡ false
  pub from : n ≤ r
  pub least : (m : ℕ) → n ≤ m → m < r → contains ns m ≡ true

pub least_free-IsLeastFree : (ns : List ℕ) (n : ℕ) → IsLeastFree ns n (least_free ns n)
unfolding least_free
least_free-IsLeastFree ns n = record {
  absent = first_absent-absent ns (length ns) n (above-le-length ns n);
  from = first_absent-from ns (length ns) n;
  least = first_absent-least ns (length ns) n;
}

-- A number of the range that is the least free one is the one found.
pub least_free-only : (ns : List ℕ) (n r : ℕ) → IsLeastFree ns n r → r ≡ least_free ns n
least_free-only ns n r is =
    let f : IsLeastFree ns n (least_free ns n) = least_free-IsLeastFree ns n in
    elim (cases_order r (least_free ns n)) [
      | inl e ↦ e
      | inr o ↦ elim o [
        | inl below ↦ let e : contains ns r ≡ true = f.least r is.from below in let a : contains ns r ≡ false = is.absent in cc
        | inr over ↦ let e : contains ns (least_free ns n) ≡ true = is.least (least_free ns n) f.from over in let a : contains ns (least_free ns n) ≡ false = f.absent in cc
      ]
    ]

-- A number that is not taken, where all from n up to it are, is the least free one.
pub least_free-found : (ns : List ℕ) (n r : ℕ) → n ≤ r → ((m : ℕ) → n ≤ m → m < r → contains ns m ≡ true) → contains ns r ≡ false → r ≡ least_free ns n
least_free-found ns n r from least absent = least_free-only ns n r (record { absent = absent; from = from; least = least })

-- which of two numbers was picked
picked : (b c : Bool) (u l r : ℕ) → cond b (Some u) (cond c (Some l) None) ≡ Some r → ((b ≡ true) × (u ≡ r)) ⊎ ((c ≡ true) × (l ≡ r))
picked true c u l r h = let e : u ≡ r = cc in inl (refl, e)
picked false true u l r h = let e : l ≡ r = cc in inr (refl, e)
picked false false u l r h = cc

-- What a draw gives: a number that is not taken, from the restart on and below the bound.
pub draw-Some : (pid_max cursor : ℕ) (ns : List ℕ) (r : ℕ) → cyclic_draw pid_max cursor ns ≡ Some r → (contains ns r ≡ false) × (restart cursor ≤ r) × (r < pid_max)
unfolding cyclic_draw
draw-Some pid_max cursor ns r h =
    let low : ℕ = restart cursor in
    let u : IsLeastFree ns (max cursor low) (least_free ns (max cursor low)) = least_free-IsLeastFree ns (max cursor low) in
    let l : IsLeastFree ns low (least_free ns low) = least_free-IsLeastFree ns low in
    elim (picked (nat_lt (least_free ns (max cursor low)) pid_max) (nat_lt (least_free ns low) pid_max) (least_free ns (max cursor low)) (least_free ns low) r h) [
      | inl e ↦ (rw (← e.1) u.absent, omega (arith, e.1, u.from), omega (arith, e.1, ltb-true _ _ e.0))
      | inr e ↦ (rw (← e.1) l.absent, omega (arith, e.1, l.from), omega (arith, e.1, ltb-true _ _ e.0))
    ]
