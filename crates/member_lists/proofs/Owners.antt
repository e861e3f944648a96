-- Owners that change, and how often a key stands in a list.
use Rattle.std.proofs.Common.{◌≡◌, ◌≢◌, ℕ, ◌+◌, ◌==◌, Bool, List, ◌∷◌, if◌then◌else◌, refl, ap, ◌∙◌, arith}
use Rattle.std.proofs.lemmas.Bool.{eq-eqb, ne_eqb}
use Rattle.std.proofs.lemmas.List.Sums.{sum_by-cons}
use Rattle.member_lists.specs.Owners.{times, handed}

pub handed-from : (from to : ℕ) → handed from to from ≡ to
handed-from from to = rw (eq-eqb from from refl) refl

pub handed-other : (from to p : ℕ) → p ≢ from → handed from to p ≡ p
handed-other from to p differs = rw (ne_eqb p from differs) refl

pub times-cons : (k j : ℕ) (xs : List ℕ) → times k (j ∷ xs) ≡ (if j == k then 1 else 0) + times k xs
times-cons k j xs = sum_by-cons (λ i. if i == k then 1 else 0) j xs

pub times-here : (k : ℕ) (xs : List ℕ) → times k (k ∷ xs) ≡ 1 + times k xs
times-here k xs = times-cons k k xs ∙ ap (λ (b : Bool). (if b then 1 else 0) + times k xs) (eq-eqb k k refl)

pub times-later : (k j : ℕ) (xs : List ℕ) → k ≢ j → times j (k ∷ xs) ≡ times j xs
times-later k j xs differs = grind (arith, times-cons)
