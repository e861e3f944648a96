-- Lists in which nothing passes, or one element does, and the row of least number.
use Rattle.std.proofs.Common.{◌≡◌, inl, inr, ℕ, ◌<◌, ◌≤◌, ◌==◌, nat_lt, Bool, true, false, List, [], ◌∷◌, length, filter, Option, Some, None, if◌then◌else◌, refl, sym, ap, ◌∙◌, arith}
use Rattle.std.specs.Option.{option_map_or}
use Rattle.pid_types.specs.declared.plain.Row.{Row}
use Rattle.pid_types.specs.Membership.{IsIn}
use Rattle.pid_types.specs.Names.{number_or_zero}
use Rattle.pid_types.specs.State.{State}
use Rattle.pid_types.specs.Wait.{least_row}
use Rattle.model_laws.proofs.EndsKept.{least_row-IsIn}

-- nobody passes
pub filter-none : {X : Type 0} (p : X → Bool) (xs : List X) → ((x : X) → IsIn x xs → p x ≡ false) → filter p xs ≡ []
filter-none p [] none = refl
filter-none p (x ∷ xs) none = rw (none x (inl refl)) (filter-none p xs (λ y i. none y (inr i)))

-- somebody is there
pub some-there : {X : Type 0} (x : X) (xs : List X) → IsIn x xs → (length xs == 0) ≡ false
some-there x [] i = absurd i
some-there x (y ∷ ys) i = grind arith

module _ (state : State) (sp : ℕ) (r : Row) where
  abbrev at : Row → ℕ
  at row = number_or_zero state.spaces row.name sp

  abbrev first : Row → Option Row → Row
  first row o = option_map_or (λ other. if nat_lt (at other) (at row) then other else row) o row

  -- one that is below all others is the least
  pub least-is : (xs : List Row) → IsIn r xs → ((x : Row) → IsIn x xs → (at r ≤ at x) × (at x ≡ at r → x ≡ r)) → least_row state sp xs ≡ Some r
  least-is [] i below = absurd i
  least-is (x ∷ xs) (inr i) below = ap (λ o. Some (first x o)) (least-is xs i (λ y j. below y (inr j))) ∙ ap Some (go (nat_lt (at r) (at x)) refl)
    where
      go : (b : Bool) → nat_lt (at r) (at x) ≡ b → (if b then r else x) ≡ r
      go true e = refl
      go false e = (below x (inl refl)).1 (let h = (below x (inl refl)).0 in let z : at x ≤ at r = grind (arith, e) in omega (arith, h, z))
  least-is (x ∷ xs) (inl same) below = ap Some (go (least_row state sp xs) refl)
    where
      go : (o : Option Row) → least_row state sp xs ≡ o → first x o ≡ r
      go None e = sym same
      go (Some y) e = test (nat_lt (at y) (at x)) refl
        where
          test : (b : Bool) → nat_lt (at y) (at x) ≡ b → (if b then y else x) ≡ r
          test true e' = absurd (
              let h = (below y (inr (least_row-IsIn state sp xs y e))).0 in
              let g : at r ≡ at x = ap at same in
              let z : at y < at x = grind (arith, e') in omega (arith, h, z, g))
          test false e' = sym same
