-- Elements of lists and their places, and lists that rise.
use Rattle.std.proofs.Common.{◌≡◌, ◌⊎◌, inl, inr, ℕ, zero, suc, ◌+◌, ◌<◌, ◌≤◌, List, [], ◌∷◌, length, map, Option, Some, None, refl, sym, ap, subst, ◌∙◌, arith}
use Rattle.std.specs.Prelude.{slice_index_or}
use Rattle.std.specs.Option.{option_map_or}
use Rattle.std.specs.List.{AllByRecursion}
use Rattle.id_slab.specs.Ids.{key_of, AreRising}
use Rattle.pid_types.specs.Membership.{IsIn}
use Rattle.pid_types.specs.Sound.{IsRising}
use Rattle.model_laws.proofs.Lists.{IsIn-from_map}
use Rattle.std.proofs.lemmas.Bool.{cases_eq, eq-eqb}
use Rattle.pid_types.proofs.General.{apart}
use Rattle.task_table.specs.Collect.{collect}

module _ {X : Type 0} where
  -- what holds of all holds of each
  pub each-in : (P : X → Type 0) (xs : List X) → AllByRecursion P xs → (x : X) → IsIn x xs → P x
  each-in P [] all x i = absurd i
  each-in P (y ∷ xs) all x (inl e) = subst P (sym e) all.0
  each-in P (y ∷ xs) all x (inr i) = each-in P xs all.1 x i

  -- where an element stands
  pub place-of : (d x : X) (xs : List X) → IsIn x xs → (j : ℕ) × (j < length xs) × (slice_index_or xs j d ≡ x)
  place-of d x [] i = absurd i
  place-of d x (y ∷ xs) (inl e) = (zero, omega arith, sym e)
  place-of d x (y ∷ xs) (inr i) = let r = place-of d x xs i in (suc r.0, (let h = r.1 in omega (arith, h)), r.2)

  -- one more element is seen
  pub each-next : (P : X → Type 0) (all rest : List X) (x : X) → P x → ((y : X) → IsIn y all → P y ⊎ IsIn y (x ∷ rest)) → (y : X) → IsIn y all → P y ⊎ IsIn y rest
  each-next P all rest x here before y i = go (before y i)
    where
      go : P y ⊎ IsIn y (x ∷ rest) → P y ⊎ IsIn y rest
      go (inl h) = inl h
      go (inr (inl same)) = inl (subst P (sym same) here)
      go (inr (inr j)) = inr j

  -- all are
  pub each-all : (P : X → Type 0) (all : List X) → ((y : X) → IsIn y all → P y ⊎ IsIn y []) → (y : X) → IsIn y all → P y
  each-all P all before y i = elim (before y i) [ inl h ↦ h | inr none ↦ absurd none ]

-- an id that is listed has its key, and is in the list
pub key-listed : (ids : List (ℕ × ℕ)) (i k : ℕ) → key_of ids i ≡ Some k → (p : ℕ × ℕ) × IsIn p ids × (p.0 ≡ i) × (p.1 ≡ k)
key-listed [] i k e = absurd (cc)
key-listed (p ∷ ids) i k e = go (cases_eq p.0 i) (λ z. key-listed ids i k z)
  where
    go : (p.0 ≡ i) ⊎ ((p.0 ≡ i) → ⊥) → (key_of ids i ≡ Some k → (q : ℕ × ℕ) × IsIn q ids × (q.0 ≡ i) × (q.1 ≡ k))
        → (q : ℕ × ℕ) × IsIn q (p ∷ ids) × (q.0 ≡ i) × (q.1 ≡ k)
    go (inl same) again = (p, inl refl, same, (let z : Some p.1 ≡ Some k = rw (eq-eqb p.0 i same) at e in ap (λ o. option_map_or (λ x. x) o k) z))
    go (inr m) again = let r = again (let z : key_of ids i ≡ Some k = rw (apart p.0 i m) at e in z) in (r.0, inr r.1, r.2, r.3)

-- ids that rise
pub rising-ids : (ids : List (ℕ × ℕ)) → AreRising ids → IsRising (map (λ p. p.0) ids)
rising-ids [] h = tt
rising-ids (p ∷ ids) h =
    ((λ m i. let r = IsIn-from_map (λ (q : ℕ × ℕ). q.0) m ids i in subst (λ n. p.0 < n) (sym r.2) (each-in (λ (q : ℕ × ℕ). p.0 < q.0) ids h.0 r.0 r.1)), rising-ids ids h.1)

-- what look-ups find rises by their numbers
module _ {X : Type 0} (f : ℕ → Option X) (key : X → ℕ) (keyed : (i : ℕ) (x : X) → f i ≡ Some x → key x ≡ i) where
  pub found-above : (n len : ℕ) (x : X) → IsIn x (collect f n len) → n ≤ key x
  found-above n zero x i = absurd i
  found-above n (suc len) x i = go (f n) refl (λ j. found-above (n + 1) len x j) i
    where
      go : (o : Option X) → f n ≡ o → (IsIn x (collect f (n + 1) len) → n + 1 ≤ key x)
          → IsIn x (option_map_or (λ y. y ∷ collect f (n + 1) len) o (collect f (n + 1) len)) → n ≤ key x
      go None e again i = let h = again i in omega (arith, h)
      go (Some y) e again (inl same) = let h = keyed n y e ∙ refl in let z = ap key same in omega (arith, h, z)
      go (Some y) e again (inr i) = let h = again i in omega (arith, h)

  pub found-rise : (n len : ℕ) → IsRising (map key (collect f n len))
  found-rise n zero = tt
  found-rise n (suc len) = go (f n) refl (found-rise (n + 1) len)
    where
      go : (o : Option X) → f n ≡ o → IsRising (map key (collect f (n + 1) len))
          → IsRising (map key (option_map_or (λ y. y ∷ collect f (n + 1) len) o (collect f (n + 1) len)))
      go None e again = again
      go (Some y) e again = (
        (λ m i.
            let r = IsIn-from_map key m (collect f (n + 1) len) i in
            let above = found-above (n + 1) len r.0 r.1 in
            let here = keyed n y e in
            let z = r.2 in
            omega (arith, above, here, z)),
        again,
      )

  pub found-few : (n len : ℕ) → length (collect f n len) ≤ len
  found-few n zero = omega arith
  found-few n (suc len) = go (f n) (found-few (n + 1) len)
    where
      go : (o : Option X) → length (collect f (n + 1) len) ≤ len → length (option_map_or (λ y. y ∷ collect f (n + 1) len) o (collect f (n + 1) len)) ≤ suc len
      go None h = omega (arith, h)
      go (Some y) h = omega (arith, h)
