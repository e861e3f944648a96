-- An element is inserted in front of the first one with a greater key.
use Rattle.std.proofs.Common.{◌≡◌, ℕ, suc, ◌+◌, ◌≤◌, Bool, cond, not, List, [], ◌∷◌, length, refl, sym, ap, ◌∙◌, inl, inr, arith}
use Rattle.std.specs.Prelude.{nat_lt, unwrap_or, position, insert, Some, None}
use Rattle.std.specs.List.{prefix_len}
use Rattle.std.proofs.lemmas.Bool.{cases_Bool}
use Rattle.std.proofs.lemmas.Bool.Decides.{nat_tests}
use Rattle.std.proofs.lemmas.List.Sums.{prefix_len-le-length}
use Rattle.pid_types.specs.Fork.{insert_by}

-- whether the element does not come behind the number
abbrev is_not_above : {X : Type 0} → (X → ℕ) → ℕ → X → Bool
is_not_above key number x = not (nat_lt number (key x))

insert-one_more : {X : Type 0} → (xs : List X) (x new : X) (k : ℕ) → insert (x ∷ xs) (1 + k) new ≡ x ∷ insert xs k new
insert-one_more xs x new k = let e : 1 + k ≡ suc k = omega arith in rw e refl

insert_by-prefix : {X : Type 0} → (key : X → ℕ) (new : X) (xs : List X) → insert_by key new xs ≡ insert xs (prefix_len (is_not_above key (key new)) xs) new
insert_by-prefix key new [] = refl
insert_by-prefix key new (x ∷ xs) = elim (cases_Bool (nat_lt (key new) (key x))) [
  | inl e ↦ rw e refl
  | inr e ↦ rw e (ap (λ l. x ∷ l) (insert_by-prefix key new xs) ∙ sym (insert-one_more xs x new (prefix_len (is_not_above key (key new)) xs)))
]

place-prefix : (k n : ℕ) → k ≤ n → unwrap_or (cond (nat_lt k n) (Some k) None) n ≡ k
place-prefix k n within = elim (cases_Bool (nat_lt k n)) [
  | inl e ↦ rw e refl
  | inr e ↦ let same : n ≡ k = grind (arith, nat_tests) in rw e same
]

-- the place in front of the first element with a greater key is its place
pub insert_by-place : {X : Type 0} → (key : X → ℕ) (new : X) (xs : List X)
    → insert_by key new xs ≡ insert xs (unwrap_or (position (λ x. nat_lt (key new) (key x)) xs) (length xs)) new
insert_by-place key new xs =
    insert_by-prefix key new xs
    ∙ ap (λ k. insert xs k new) (sym (place-prefix (prefix_len (is_not_above key (key new)) xs) (length xs) (prefix_len-le-length (is_not_above key (key new)) xs)))
