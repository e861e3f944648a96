-- Places of lists, and what stands there.
use Rattle.std.proofs.Common.{◌≡◌, ◌∙◌, inl, inr, ℕ, zero, suc, ◌<◌, List, [], ◌∷◌, length, slice_get, Option, Some, None, refl, subst, sym, ap, arith}
use Rattle.std.specs.Prelude.{slice_index, IfSome}
use Rattle.pid_types.specs.declared.plain.Row.{Row}
use Rattle.pid_types.specs.Names.{root_number}
use Rattle.pid_types.specs.Membership.{IsIn}

module _ {X : Type 0} where
  pub none_some : {x : X} → None ≡ Some x → ⊥
  none_some e = cc

  pub some_same : {x y : X} → Some x ≡ Some y → x ≡ y
  some_same e = cc

  pub place_of : (xs : List X) (x : X) → IsIn x xs → (j : ℕ) × (slice_get xs j ≡ Some x) × (j < length xs)
  place_of [] x i = absurd i
  place_of (y ∷ ys) x (inl same) = (zero, ap Some (sym same), omega arith)
  place_of (y ∷ ys) x (inr i) = let p = place_of ys x i in (suc p.0, p.1, let lt = p.2 in omega (arith, lt))

  pub at_place : (xs : List X) (j : ℕ) (x : X) → slice_get xs j ≡ Some x → IsIn x xs
  at_place [] j x e = absurd (cc)
  at_place (y ∷ ys) zero x e = inl (let z : x ≡ y = cc in z)
  at_place (y ∷ ys) (suc j) x e = inr (at_place ys j x e)

  pub below_length : (xs : List X) (j : ℕ) (x : X) → slice_get xs j ≡ Some x → j < length xs
  below_length [] j x e = absurd (cc)
  below_length (y ∷ ys) zero x e = omega arith
  below_length (y ∷ ys) (suc j) x e = let lt = below_length ys j x e in omega (arith, lt)

-- the first number of a list
pub first-is : (xs : List ℕ) (n : ℕ) → slice_get xs 0 ≡ Some n → slice_index xs 0 ≡ n
first-is [] n e = absurd (cc)
first-is (x ∷ xs) n e = (let z : x ≡ n = cc in z)

pub no-first : (xs : List ℕ) → slice_get xs 0 ≡ None → 0 < length xs → ⊥
no-first [] e some = omega (arith, some)
no-first (x ∷ xs) e some = absurd (cc)

-- there is something at each place below the length
pub at-some : {X : Type 0} (xs : List X) (j : ℕ) → j < length xs → (x : X) × (slice_get xs j ≡ Some x)
at-some [] j lt = absurd (omega (arith, lt))
at-some (x ∷ xs) zero lt = (x, refl)
at-some (x ∷ xs) (suc j) lt = at-some xs j (omega (arith, lt))

-- the number of a row that was read at its place
pub number-is : (rows : List Row) (j : ℕ) (row : Row) (o : Option ℕ) (n : ℕ) → slice_get rows j ≡ Some row → IfSome (slice_get rows j) (λ r. o ≡ slice_get r.name.numbers.items 0) → o ≡ Some n → root_number row.name ≡ n
number-is rows j row o n here told is =
    let known : o ≡ slice_get row.name.numbers.items 0 = subst (λ at. IfSome at (λ (r : Row). o ≡ slice_get r.name.numbers.items 0)) here told in
    first-is row.name.numbers.items n (sym known ∙ is)
