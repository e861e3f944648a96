-- What a search among the ancestors finds, and the end of each climb.
use Rattle.std.proofs.Common.{◌≡◌, ◌≢◌, inl, inr, ℕ, zero, suc, ◌==◌, ◌||◌, Bool, true, false, cond, List, [], ◌∷◌, Option, Some, None, refl, sym, ap, ◌∙◌, arith}
use Rattle.std.specs.Prelude.{find}
use Rattle.std.specs.Option.{option_map_or}
use Rattle.std.proofs.lemmas.Bool.{cases_eq, eq-eqb}
use Rattle.pid_types.specs.Chains.{climb, contains}

module _ (test : ℕ → Bool) where
  -- where none passes none is found
  pub found-none : ((a : ℕ) → test a ≡ false) → (xs : List ℕ) → find test xs ≡ None
  found-none off [] = refl
  found-none off (x ∷ xs) = ap (λ b. cond b (Some x) (find test xs)) (off x) ∙ found-none off xs

  -- what is found passes, and is in the list
  pub found-is : (xs : List ℕ) (a : ℕ) → find test xs ≡ Some a → (test a ≡ true) × (contains xs a ≡ true)
  found-is [] a e = absurd (cc)
  found-is (x ∷ xs) a e = go (test x) refl (λ h. found-is xs a h) e
    where
      or_right : (b : Bool) → contains xs a ≡ true → (b || contains xs a) ≡ true
      or_right true h = refl
      or_right false h = h

      go : (b : Bool) → test x ≡ b → (find test xs ≡ Some a → (test a ≡ true) × (contains xs a ≡ true)) → cond b (Some x) (find test xs) ≡ Some a → (test a ≡ true) × (contains (x ∷ xs) a ≡ true)
      go true passes again z =
          let same : x ≡ a = ap (λ o. option_map_or (λ y. y) o a) z in
          (sym (ap test same) ∙ passes, ap (λ b. b || contains xs a) (eq-eqb x a same))
      go false fails again z = let r = again z in (r.0, or_right (x == a) r.1)

-- who is above its own parent
pub record IsAbove (f : ℕ → Option ℕ) (key x : ℕ) : Type 0 where
  pub up : ℕ
  pub parent : f x ≡ Some up
  pub most : ℕ
  pub climbs : contains (climb f most up) key ≡ true

module _ (f : ℕ → Option ℕ) (key : ℕ) where
  further : (b : Bool) (xs : List ℕ) → b ≡ false → (b || contains xs key) ≡ true → contains xs key ≡ true
  further true xs off e = absurd (cc)
  further false xs off e = e

  -- from the key on each climb comes back to it, if it is above itself
  again : IsAbove f key key → (x : ℕ) → IsAbove f key x → (p : ℕ) → f x ≡ Some p → IsAbove f key p
  unfolding climb
  again own x above p e = go above.most (ap (λ q. contains (climb f above.most q) key) same ∙ above.climbs)
    where
      same : p ≡ above.up
      same = ap (λ o. option_map_or (λ y. y) o p) (sym e ∙ above.parent)

      go : (most : ℕ) → contains (climb f most p) key ≡ true → IsAbove f key p
      go zero h = absurd (cc)
      go (suc most) h = elim (cases_eq p key) [
        | inl is ↦ record { up = own.up; parent = ap f is ∙ own.parent; most = own.most; climbs = own.climbs }
        | inr differs ↦ on (f p) refl (further (p == key) (option_map_or (climb f most) (f p) []) (grind (arith, differs)) h)
      ]
        where
          on : (o : Option ℕ) → f p ≡ o → contains (option_map_or (climb f most) o []) key ≡ true → IsAbove f key p
          on None is z = absurd (cc)
          on (Some q) is z = record { up = q; parent = is; most = most; climbs = z }

  never : IsAbove f key key → (most x a : ℕ) → IsAbove f key x → contains (climb f most x) a ≡ true → f a ≢ None
  unfolding climb
  never own zero x a above h none = absurd (cc)
  never own (suc most) x a above h none = next (λ p up z. never own most p a up z none)
    where
      rest : (b : Bool) → b ≡ false → (b || contains (option_map_or (climb f most) (f x) []) a) ≡ true → contains (option_map_or (climb f most) (f x) []) a ≡ true
      rest true off e = absurd (cc)
      rest false off e = e

      on : ((p : ℕ) → IsAbove f key p → contains (climb f most p) a ≡ true → ⊥) → (o : Option ℕ) → f x ≡ o → contains (option_map_or (climb f most) o []) a ≡ true → ⊥
      on further_up None is z = absurd (cc)
      on further_up (Some p) is z = further_up p (again own x above p is) z

      next : ((p : ℕ) → IsAbove f key p → contains (climb f most p) a ≡ true → ⊥) → ⊥
      next further_up = elim (cases_eq x a) [
        | inl is ↦ absurd (let z = sym above.parent ∙ ap f is ∙ none in cc)
        | inr differs ↦ on further_up (f x) refl (rest (x == a) (grind (arith, differs)) h)
      ]

  -- a climb that ends does not come back to where it began
  pub no_return : (limit a : ℕ) → contains (climb f limit key) a ≡ true → f a ≡ None → (up most : ℕ) → f key ≡ Some up → contains (climb f most up) key ≡ true → ⊥
  no_return limit a ends top up most parent climbs =
      let own : IsAbove f key key = record { up = up; parent = parent; most = most; climbs = climbs } in
      never own limit key a own ends top
