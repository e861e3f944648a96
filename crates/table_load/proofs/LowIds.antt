-- What a text has below its stamp, from the tests of its lists.
use Rattle.std.proofs.Common.{◌≡◌, inl, inr, ℕ, ◌<◌, true, ◌&&◌, List, [], ◌∷◌, refl, ap, ◌∙◌, subst, sym, arith}
use Rattle.std.specs.Prelude.{nat_lt}
use Rattle.std.specs.List.{list_all}
use Rattle.std.proofs.lemmas.Bool.{and_parts, ltb-true}
use Rattle.pid_types.specs.Membership.{IsIn}

-- what passes a test in all of a list is below the bound
pub each_below : {X : Type 0} (f : X → ℕ) (bound : ℕ) (xs : List X) → list_all (λ x. nat_lt (f x) bound) xs ≡ true → (x : X) → IsIn x xs → f x < bound
each_below f bound [] all x i = absurd i
each_below f bound (y ∷ ys) all x (inl same) = subst (λ z. f z < bound) (sym same) (ltb-true (f y) bound (and_parts (nat_lt (f y) bound) (list_all (λ x. nat_lt (f x) bound) ys) all).0)
each_below f bound (y ∷ ys) all x (inr i) = each_below f bound ys (and_parts (nat_lt (f y) bound) (list_all (λ x. nat_lt (f x) bound) ys) all).1 x i

-- and the other way
pub all_below : {X : Type 0} (f : X → ℕ) (bound : ℕ) (xs : List X) → ((x : X) → IsIn x xs → f x < bound) → list_all (λ x. nat_lt (f x) bound) xs ≡ true
all_below f bound [] low = refl
all_below f bound (y ∷ ys) low =
    let here : nat_lt (f y) bound ≡ true = (let lt = low y (inl refl) in grind (arith, lt)) in
    ap (λ b. b && list_all (λ x. nat_lt (f x) bound) ys) here ∙ all_below f bound ys (λ x i. low x (inr i))
