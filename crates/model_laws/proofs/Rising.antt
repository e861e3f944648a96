-- Lists that rise by a key.
use Rattle.model_laws.proofs.Words.{◌≡◌, ℕ, ◌<◌, Bool, ◌==◌, List, [], ◌∷◌, ◌++◌, map, Some, refl, sym, subst, inl, inr, arith, filter, find, option_map, ap, ◌∙◌, eqb-true, eq-eqb, Row, root_number, row_at, IsIn, IsRising}
use Rattle.model_laws.proofs.Lists.{IsIn-map, IsIn-from_map, IsIn-from_filter, find-Some, find-only, find-map, find-same, each_pushed}

-- what is left out of a rising list leaves it rising
pub IsRising-filter : {X : Type 0} (key : X → ℕ) (p : X → Bool) (xs : List X) → IsRising (map key xs) → IsRising (map key (filter p xs))
IsRising-filter key p [] h = tt
IsRising-filter {X} key p (x ∷ xs) h = grind (arith, IsRising-filter key p xs, below)
  where
    below : (m : ℕ) → IsIn m (map key (filter p xs)) → key x < m
    below m i = let r = IsIn-from_map key m (filter p xs) i in subst (λ n. key x < n) (sym r.2) (h.0 (key r.0) (IsIn-map key r.0 xs (IsIn-from_filter p r.0 xs r.1).0))

-- a list goes on rising by what is above it
pub IsRising-push : {X : Type 0} (key : X → ℕ) (xs : List X) (y : X) → IsRising (map key xs) → ((x : X) → IsIn x xs → key x < key y)
    → IsRising (map key (xs ++ y ∷ []))
IsRising-push key [] y h above = (λ m i. elim i [ ], tt)
IsRising-push {X} key (x ∷ xs) y h above = (below, IsRising-push key xs y h.1 (λ z i. above z (inr i)))
  where
    below : (m : ℕ) → IsIn m (map key (xs ++ y ∷ [])) → key x < m
    below m i =
        let r = IsIn-from_map key m (xs ++ y ∷ []) i in
        subst (λ n. key x < n) (sym r.2) (each_pushed (λ z. key x < key z) xs y (λ z j. h.0 (key z) (IsIn-map key z xs j))
        (above x (inl refl)) r.0 r.1)

-- two elements of a rising list with one key are one
pub unique_key : {X : Type 0} (key : X → ℕ) (xs : List X) → IsRising (map key xs) → (a b : X) → IsIn a xs → IsIn b xs → key a ≡ key b → a ≡ b
unique_key key [] h a b i j e = elim i [ ]
unique_key key (x ∷ xs) h a b i j e = grind (arith, unique_key key xs h.1 a b, h.0 (key a), h.0 (key b), IsIn-map key a xs, IsIn-map key b xs)

-- a search by the key finds the element
pub find-key : {X : Type 0} (key : X → ℕ) (xs : List X) → IsRising (map key xs) → (x : X) → IsIn x xs → find (λ y. key y == key x) xs ≡ Some x
find-key key xs h x i =
    find-only (λ y. key y == key x) xs x i (eq-eqb (key x) (key x) refl) (λ y j e. unique_key key xs h y x j i (eqb-true (key y) (key x) e))

-- what is found by its key has it
pub find-key_at : {X : Type 0} (key : X → ℕ) (xs : List X) (n : ℕ) (x : X) → find (λ y. key y == n) xs ≡ Some x → IsIn x xs × (key x ≡ n)
find-key_at key xs n x h = let r = find-Some (λ y. key y == n) xs x h in (r.0, eqb-true (key x) n r.1)

-- root numbers stay where names do
pub roots-map : (f : Row → Row) → ((r : Row) → (f r).name ≡ r.name) → (rows : List Row)
    → map (λ r. root_number r.name) (map f rows) ≡ map (λ r. root_number r.name) rows
roots-map f names [] = refl
roots-map f names (r ∷ rows) = rw (names r, roots-map f names rows) refl

-- what stands at a number is the changed row
pub row_at-map : (f : Row → Row) → ((r : Row) → (f r).name ≡ r.name) → (rows : List Row) (n : ℕ) → row_at (map f rows) n ≡ option_map f (row_at rows n)
row_at-map f names rows n =
    find-map f (λ r. root_number r.name == n) rows
    ∙ ap (option_map f) (find-same _ (λ r. root_number r.name == n) rows (λ r i. ap (λ a. root_number a == n) (names r)))
