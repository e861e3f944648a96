-- Rows with one more, and the numbers that a new name is made of.
use Rattle.model_laws.proofs.Words.{◌≡◌, ℕ, ◌<◌, false, List, [], ◌∷◌, ◌++◌, map, reverse, Some, None, refl, sym, ap, ◌∙◌, ◌⊎◌, inl, inr, arith, nat_lt, is_none, unwrap_or, find, reverse-append, map-append, eqb-true, eq-eqb, ltb-true, ltb-false, cond_both, Row, contains, State, path_up, beside, number, root_number, taken, cursor_of, draw, insert_by, insert_row, drawn, new_name, IsIn, IsRising}
use Rattle.model_laws.proofs.Ground.{each_of_map, IsIn-map, IsIn-reverse, IsIn-to_reverse, find-None, option_both}
use Rattle.model_laws.proofs.Draws.{draw-Some}

-- ---- one more

-- what is in the list after the insertion is the new one, or was there
pub IsIn-from_insert_by : {X : Type 0} (key : X → ℕ) (new : X) (xs : List X) (x : X) → IsIn x (insert_by key new xs) → (x ≡ new) ⊎ IsIn x xs
IsIn-from_insert_by key new [] x i = grind arith
IsIn-from_insert_by key new (y ∷ xs) x i = grind (arith, IsIn-from_insert_by key new xs x)

-- the new one is there
pub IsIn-insert_by_new : {X : Type 0} (key : X → ℕ) (new : X) (xs : List X) → IsIn new (insert_by key new xs)
IsIn-insert_by_new key new [] = inl refl
IsIn-insert_by_new key new (y ∷ xs) = grind (arith, IsIn-insert_by_new key new xs)

-- and so is each that was there
pub IsIn-insert_by_old : {X : Type 0} (key : X → ℕ) (new : X) (xs : List X) (x : X) → IsIn x xs → IsIn x (insert_by key new xs)
IsIn-insert_by_old key new [] x i = elim i [ ]
IsIn-insert_by_old key new (y ∷ xs) x i = grind (arith, IsIn-insert_by_old key new xs x)

-- the list rises with one of another key
pub IsRising-insert_by : {X : Type 0} (key : X → ℕ) (new : X) (xs : List X) → IsRising (map key xs) → ((x : X) → IsIn x xs → key x ≡ key new → ⊥)
    → IsRising (map key (insert_by key new xs))
IsRising-insert_by key new [] rise differs = (λ m i. elim i [ ], tt)
IsRising-insert_by {X} key new (y ∷ xs) rise differs =
    cond_both (nat_lt (key new) (key y)) (new ∷ y ∷ xs) (y ∷ insert_by key new xs)
    (λ all. IsRising (map key all)) (λ e. (above (ltb-true _ _ e), rise))
    (λ e. (below (grind (arith, ltb-false _ _ e, differs y (inl refl))), IsRising-insert_by key new xs rise.1 (λ r i. differs r (inr i))))
  where
    above : key new < key y → (m : ℕ) → IsIn m (map key (y ∷ xs)) → key new < m
    above l m i = grind (arith, rise.0 m)

    below : key y < key new → (m : ℕ) → IsIn m (map key (insert_by key new xs)) → key y < m
    below l = each_of_map (λ m. key y < m) key (insert_by key new xs) (λ x i.
        grind (arith, IsIn-from_insert_by key new xs x i, rise.0 (key x), IsIn-map key x xs))

-- ---- one row more, and one thread more

-- a row after the insertion is the new one, or was there
pub IsIn-from_insert : (new : Row) (rows : List Row) (r : Row) → IsIn r (insert_row new rows) → (r ≡ new) ⊎ IsIn r rows
IsIn-from_insert new rows r i = IsIn-from_insert_by (λ (x : Row). root_number x.name) new rows r i

-- the new one is there
pub IsIn-insert_new : (new : Row) (rows : List Row) → IsIn new (insert_row new rows)
IsIn-insert_new new rows = IsIn-insert_by_new (λ (x : Row). root_number x.name) new rows

-- and so is each that was there
pub IsIn-insert_old : (new : Row) (rows : List Row) (r : Row) → IsIn r rows → IsIn r (insert_row new rows)
IsIn-insert_old new rows r i = IsIn-insert_by_old (λ (x : Row). root_number x.name) new rows r i

-- the rows rise with one of another root number
pub IsRising-insert : (new : Row) (rows : List Row) → IsRising (map (λ r. root_number r.name) rows)
    → ((r : Row) → IsIn r rows → root_number r.name ≡ root_number new.name → ⊥)
    → IsRising (map (λ r. root_number r.name) (insert_row new rows))
IsRising-insert new rows rise differs = IsRising-insert_by (λ (x : Row). root_number x.name) new rows rise differs

-- ---- the new name

-- a list turned round and changed
map-reverse : (f : ℕ → ℕ) (xs : List ℕ) → map f (reverse xs) ≡ reverse (map f xs)
map-reverse f [] = refl
map-reverse f (x ∷ xs) =
    ap (map f) (reverse-append (x ∷ []) xs) ∙ map-append f (reverse xs) (x ∷ []) ∙ ap (λ ys. ys ++ f x ∷ []) (map-reverse f xs) ∙ sym (reverse-append (f x ∷ []) (map f xs))

-- the number beside an id in a list of numbers drawn for each id
beside-map : (d : ℕ → ℕ) (ts : List ℕ) (s n : ℕ) → beside s ts (map d ts) ≡ Some n → (d s ≡ n) × IsIn s ts
beside-map d [] s n h = absurd (cc)
beside-map d (t ∷ ts) s n h = grind (arith, beside-map d ts s n, eqb-true t s)

-- each id has its own drawn number beside it
beside-map_at : (d : ℕ → ℕ) (ts : List ℕ) (s : ℕ) → IsIn s ts → beside s ts (map d ts) ≡ Some (d s)
beside-map_at d [] s i = elim i [ ]
beside-map_at d (t ∷ ts) s i = grind (arith, beside-map_at d ts s, eqb-true t s, eq-eqb t s)

-- the number of the new name in a namespace is what that gives, and the namespace is on its path
pub number-new_name : (state : State) (t s n : ℕ) → number state.spaces (new_name state t) s ≡ Some n
    → (drawn state s ≡ n) × IsIn s (path_up state.spaces t)
unfolding number
number-new_name state t s n h =
    let r = beside-map (drawn state) (reverse (path_up state.spaces t)) s n (ap (λ ns. beside s (reverse (path_up state.spaces t)) ns) (map-reverse (drawn state) (path_up state.spaces t)) ∙ h) in
    (r.0, IsIn-reverse s (path_up state.spaces t) r.1)

-- each namespace on the path gives the number that it has drawn
pub number-new_name_at : (state : State) (t s : ℕ) → IsIn s (path_up state.spaces t)
    → number state.spaces (new_name state t) s ≡ Some (drawn state s)
unfolding number
number-new_name_at state t s i =
    sym (ap (λ ns. beside s (reverse (path_up state.spaces t)) ns) (map-reverse (drawn state) (path_up state.spaces t)))
    ∙ beside-map_at (drawn state) (reverse (path_up state.spaces t)) s (IsIn-to_reverse s (path_up state.spaces t) i)

-- where each namespace on the path has a number to give, it gives one that is not taken, above 0 and below the bound
pub drawn-free : (state : State) (path : List ℕ) → find (λ s. is_none (draw state s)) path ≡ None → (s : ℕ) → IsIn s path
    → (contains (taken state s) (drawn state s) ≡ false) × (0 < drawn state s) × (drawn state s < state.pid_max) × (draw state s ≡ Some (drawn state s))
unfolding drawn draw
drawn-free state path none s i = option_both (draw state s) (λ o. is_none o ≡ false
    → (contains (taken state s) (unwrap_or o 0) ≡ false) × (0 < unwrap_or o 0) × (unwrap_or o 0 < state.pid_max) × (o ≡ Some (unwrap_or o 0)))
    (λ e f. absurd (cc)) (λ m e f. let d = draw-Some state.pid_max (cursor_of state s) (taken state s) m e in (d.0, d.1, d.2, refl))
    (find-None (λ u. is_none (draw state u)) path none s i)
