-- Where elements of a list are counted that pass a test.
use Rattle.std.proofs.Common.{◌≡◌, ℕ, suc, ◌+◌, ◌<◌, Bool, true, false, cond, List, [], ◌∷◌, get_or, count_by, refl, ap, arith}
use Rattle.std.proofs.lemmas.List.Sums.{sum_by-cons}

abbrev one_if : Bool → ℕ
one_if b = cond b 1 0

module _ {X : Type 0} (p : X → Bool) where
  -- where one is counted one passes
  pub some-counted : (xs : List X) (d : X) → 0 < count_by p xs → (k : ℕ) × (p (get_or xs k d) ≡ true)
  some-counted [] d some = absurd (omega (arith, some))
  some-counted (x ∷ xs) d some = go (λ more. some-counted xs d more) (p x) refl
    where
      cons : count_by p (x ∷ xs) ≡ one_if (p x) + count_by p xs
      cons = sum_by-cons (λ y. one_if (p y)) x xs

      go : (0 < count_by p xs → (k : ℕ) × (p (get_or xs k d) ≡ true)) → (b : Bool) → p x ≡ b → (k : ℕ) × (p (get_or (x ∷ xs) k d) ≡ true)
      go later true on = (0, on)
      go later false off =
          let zero_is : one_if (p x) ≡ 0 = ap one_if off in
          let rest = later (omega (arith, cons, some, zero_is)) in
          (suc rest.0, rest.1)
