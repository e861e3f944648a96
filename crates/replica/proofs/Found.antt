-- What is found of a session.
use Rattle.std.proofs.Common.{◌≡◌, ◌⊎◌, inl, inr, ℕ, zero, suc, true, false, eqb, List, [], ◌∷◌, take, Option, Some, None, refl, sym, subst, arith}
use Rattle.std.specs.Map.{lookup}
use Rattle.pid_script.proofs.Cuts.{by_test, same_eqb}
use Rattle.replica.specs.Replicas.{without_key, used}

abbrev pub found : ℕ → List (ℕ × ℕ) → Option ℕ
found session sessions = lookup (λ s. eqb session s) sessions

pub same_number : (m n : ℕ) → eqb m n ≡ true → m ≡ n
same_number m n is = grind (arith)

-- of one that is taken away nothing is found, and of another what was found
pub found_without : (session : ℕ) (es : List (ℕ × ℕ)) → found session (without_key session es) ≡ None
found_without session [] = refl
found_without session (e ∷ es) =
    by_test (eqb session e.0) (λ same. rw same (found_without session es)) (λ other. rw (other, other) (found_without session es))

pub found_other : (session k : ℕ) (es : List (ℕ × ℕ)) → eqb session k ≡ false → found session (without_key k es) ≡ found session es
found_other session k [] differ = refl
found_other session k (e ∷ es) differ =
    by_test (eqb k e.0)
    (λ same. let other : eqb session e.0 ≡ false = subst (λ s. eqb session s ≡ false) (same_number k e.0 same) differ in
    rw (same, other) (found_other session k es differ))
    (λ stays. by_test (eqb session e.0) (λ here. rw (stays, here) refl) (λ not_here. rw (stays, not_here) (found_other session k es differ)))

-- of a front what is found of the whole, or nothing
pub found_front : (session n : ℕ) (es : List (ℕ × ℕ)) → (found session (take n es) ≡ found session es) ⊎ (found session (take n es) ≡ None)
found_front session zero es = inr refl
found_front session (suc n) [] = inl refl
found_front session (suc n) (e ∷ es) =
    by_test (eqb session e.0) (λ here. rw here (inl refl)) (λ other. rw other (found_front session n es))

-- of the one that was used just now its last number is found, and of another what was found, or nothing
pub found_used : (session n : ℕ) (es : List (ℕ × ℕ)) → found session (used session n es) ≡ Some n
found_used session n es = rw (same_eqb session)

pub found_used_other : (session k n : ℕ) (es : List (ℕ × ℕ)) → eqb session k ≡ false
    → (found session (used k n es) ≡ found session es) ⊎ (found session (used k n es) ≡ None)
found_used_other session k n es differ =
    let front = found_front session 4095 (without_key k es) in
    let same = found_other session k es differ in
    rw (differ, sym same) front
