-- How many of a list there are.
use Rattle.std.proofs.Common.{◌≡◌, ℕ, zero, suc, ◌+◌, ◌<◌, cond, List, [], ◌∷◌, ◌++◌, length, get_or, set, replicate, count_by, Option, Some, None, IsSome, is_some, refl, ap, arith}
use Rattle.std.proofs.lemmas.List.{get_or_past}
use Rattle.std.proofs.lemmas.List.Sums.{sum_by-append, sum_by-cons, sum_by-set}

abbrev one_if_some : Option ℕ → ℕ
one_if_some o = cond (is_some o) 1 0

count_by-cons : (o : Option ℕ) (os : List (Option ℕ)) → count_by is_some (o ∷ os) ≡ one_if_some o + count_by is_some os
count_by-cons o os = sum_by-cons one_if_some o os

-- where none is counted there is none
pub none-counted : (os : List (Option ℕ)) → count_by is_some os ≡ 0 → (k : ℕ) → get_or os k None ≡ None
none-counted [] none k = get_or_past [] k None (omega arith)
none-counted (Some p ∷ os) none k = absurd (omega (arith, none, count_by-cons (Some p) os))
none-counted (None ∷ os) none zero = refl
none-counted (None ∷ os) none (suc k) = none-counted os (omega (arith, none, count_by-cons None os)) k

-- where one is counted there is one
pub some-counted : (os : List (Option ℕ)) → 0 < count_by is_some os → (k : ℕ) × IsSome (get_or os k None)
some-counted [] some = absurd (omega (arith, some))
some-counted (Some p ∷ os) some = (0, refl)
some-counted (None ∷ os) some = let rest = some-counted os (omega (arith, some, count_by-cons None os)) in (suc rest.0, rest.1)

-- one comes to where there is none
pub counted-more : (os : List (Option ℕ)) (k p : ℕ) → k < length os → get_or os k None ≡ None → count_by is_some (set os k (Some p)) ≡ count_by is_some os + 1
counted-more os k p low none =
    let before : one_if_some (get_or os k None) ≡ 0 = ap one_if_some none in
    omega (arith, sum_by-set one_if_some os k (Some p) None low, before)

-- one goes
pub counted-less : (os : List (Option ℕ)) (k : ℕ) → k < length os → IsSome (get_or os k None) → count_by is_some (set os k None) + 1 ≡ count_by is_some os
counted-less os k low some =
    let before : one_if_some (get_or os k None) ≡ 1 = ap (λ b. cond b 1 0) some in
    omega (arith, sum_by-set one_if_some os k None None low, before)

counted-none : (n : ℕ) → count_by is_some (replicate {A = Option ℕ} n None) ≡ 0
counted-none zero = refl
counted-none (suc n) = omega (arith, count_by-cons None (replicate n None), counted-none n)

-- room for more adds none
pub counted-grown : (os : List (Option ℕ)) (n : ℕ) → count_by is_some (os ++ replicate n None) ≡ count_by is_some os
counted-grown os n = omega (arith, sum_by-append one_if_some os (replicate n None), counted-none n)
