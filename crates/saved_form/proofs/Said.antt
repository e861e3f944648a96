-- How many blocks the first one says that its entry has.
use Rattle.std.proofs.Common.{◌≡◌, ◌≢◌, ℕ, ◌+◌, ◌/◌, ◌<◌, ◌≤◌, List, get_or, false, ◌&&◌, ap, inl, inr, ◌∙◌, arith, if◌then◌else◌, ◌==◌}
use Rattle.std.specs.Prelude.{nat_lt}
use Rattle.std.proofs.lemmas.Bool.{eq-eqb, le-ltb, lt-ltb, cases_lt}
use Rattle.std.proofs.lemmas.Bool.Decides.{eqb_tells}
use Rattle.saved_form.specs.Form.{further}
use Rattle.saved_form.specs.Taking.{blocks_said}

pub ne-eqb : (a b : ℕ) → a ≢ b → (a == b) ≡ false
ne-eqb a b away = elim (eqb_tells a b) [ inl at ↦ absurd (away at.1) | inr other ↦ other.0 ]

pub further_none : (kind count : ℕ) → (kind == 3) ≡ false → further kind count ≡ 0
further_none kind count test = ap (λ b. if b then (count + 5) / 10 else 0) test

pub said_plain : (bytes : List ℕ) → (get_or bytes 3 0 == 3) ≡ false → blocks_said bytes ≡ 1
unfolding blocks_said
said_plain bytes test =
    ap (λ b. if b && nat_lt 33 (get_or bytes 6 0) then 0 else 1 + further (get_or bytes 3 0) (get_or bytes 6 0)) test
    ∙ omega (arith, further_none (get_or bytes 3 0) (get_or bytes 6 0) test)

by_count : (bytes : List ℕ) → get_or bytes 3 0 ≡ 3
    → blocks_said bytes ≡ (if nat_lt 33 (get_or bytes 6 0) then 0 else 1 + further (get_or bytes 3 0) (get_or bytes 6 0))
unfolding blocks_said
by_count bytes is =
    ap (λ b. if b && nat_lt 33 (get_or bytes 6 0) then 0 else 1 + further (get_or bytes 3 0) (get_or bytes 6 0)) (eq-eqb (get_or bytes 3 0) 3 is)

pub said_levels : (bytes : List ℕ) → get_or bytes 3 0 ≡ 3 → get_or bytes 6 0 ≤ 33
    → blocks_said bytes ≡ 1 + further (get_or bytes 3 0) (get_or bytes 6 0)
said_levels bytes is few =
    by_count bytes is ∙ ap (λ b. if b then 0 else 1 + further (get_or bytes 3 0) (get_or bytes 6 0)) (le-ltb 33 (get_or bytes 6 0) few)

pub said_none : (bytes : List ℕ) → get_or bytes 3 0 ≡ 3 → 33 < get_or bytes 6 0 → blocks_said bytes ≡ 0
said_none bytes is many =
    by_count bytes is ∙ ap (λ b. if b then 0 else 1 + further (get_or bytes 3 0) (get_or bytes 6 0)) (lt-ltb 33 (get_or bytes 6 0) many)

pub said_few : (bytes : List ℕ) → get_or bytes 3 0 ≡ 3 → 0 < blocks_said bytes → get_or bytes 6 0 ≤ 33
said_few bytes is some =
    elim (cases_lt 33 (get_or bytes 6 0)) [
      | inl many ↦ absurd (omega (arith, some, said_none bytes is many))
      | inr few ↦ few
    ]
