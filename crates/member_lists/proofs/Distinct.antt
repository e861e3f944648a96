-- Lists in which no key comes twice.
use Rattle.std.proofs.Common.{◌≡◌, ◌≢◌, ℕ, ◌<◌, ◌≤◌, ◌==◌, List, [], ◌∷◌, length, Bool, true, false, ◌||◌, refl, sym, ◌∙◌, arith}
use Rattle.std.specs.List.{AllByRecursion, IsDistinct, list_any}
use Rattle.std.proofs.lemmas.Map.Steps.{length-le_from_distinct_below}
use Rattle.member_lists.proofs.Owners.{times-later}
use Rattle.member_lists.specs.Owners.{times}

-- a key that differs from all
module _ (P : ℕ → Type 0) (j : ℕ) (differs : (i : ℕ) → P i → j ≢ i) where
  pub apart-all : (xs : List ℕ) → AllByRecursion P xs → AllByRecursion (λ i. (j == i) ≡ false) xs
  apart-all [] all = tt
  apart-all (x ∷ xs) all = grind (arith, apart-all xs all.1)

  pub none_of : (xs : List ℕ) → AllByRecursion P xs → times j xs ≡ 0
  none_of [] all = refl
  none_of (x ∷ xs) all = times-later x j xs (λ e. differs x all.0 (sym e)) ∙ none_of xs all.1

any_all : (P : ℕ → Type 0) (q : ℕ) (xs : List ℕ) → AllByRecursion P xs → list_any (λ y. q == y) xs ≡ true → P q
any_all P q [] all any = cc
any_all P q (x ∷ xs) all any = go (λ later. any_all P q xs all.1 later) (q == x) refl any
  where
    go : (list_any (λ y. q == y) xs ≡ true → P q) → (b : Bool) → (q == x) ≡ b → (b || list_any (λ y. q == y) xs) ≡ true → P q
    go rest b e any = grind arith

-- below a number there are no more than that
pub few_below : (n : ℕ) (xs : List ℕ) → IsDistinct ◌==◌ xs → AllByRecursion (λ k. k < n) xs → length xs ≤ n
few_below n xs distinct below = length-le_from_distinct_below xs n distinct (λ q any. any_all (λ k. k < n) q xs below any)
