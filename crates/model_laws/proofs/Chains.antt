-- Chains of parents.
use Rattle.model_laws.proofs.Words.{◌<◌, ◌≡◌, ℕ, zero, suc, List, [], ◌∷◌, ◌++◌, length, Option, Some, None, refl, sym, ap, ◌∙◌, subst, ◌⊎◌, inl, inr, ◌+◌, ◌≤◌, arith, length-append, climb, IsIn}
use Rattle.model_laws.proofs.Lists.{IsIn-append_right}

-- the chain ends before it is cut off
abbrev pub Stops : (ℕ → Option ℕ) → ℕ → ℕ → Type 0
Stops f zero id = ⊥
Stops f (suc k) id = (f id ≡ None) ⊎ ((p : ℕ) × (f id ≡ Some p) × Stops f k p)

-- the chain of what has no parent
pub climb-None : (f : ℕ → Option ℕ) (k id : ℕ) → f id ≡ None → climb f (suc k) id ≡ id ∷ []
unfolding climb
climb-None f k id e = rw e refl

-- the chain of what has one
pub climb-Some : (f : ℕ → Option ℕ) (k id p : ℕ) → f id ≡ Some p → climb f (suc k) id ≡ id ∷ climb f k p
unfolding climb
climb-Some f k id p e = rw e refl

-- the first of a chain is where it begins, and the others are on the chain of its parent
pub climb_cases : (f : ℕ → Option ℕ) (k id x : ℕ) → IsIn x (climb f (suc k) id) → (x ≡ id) ⊎ ((p : ℕ) × (f id ≡ Some p) × IsIn x (climb f k p))
unfolding climb
climb_cases f k id x i = grind arith

-- a chain has its beginning
pub IsIn-climb_first : (f : ℕ → Option ℕ) (k id : ℕ) → IsIn id (climb f (suc k) id)
unfolding climb
IsIn-climb_first f k id = inl refl

-- and what the chain of the parent has
pub IsIn-climb_parent : (f : ℕ → Option ℕ) (k id p x : ℕ) → f id ≡ Some p → IsIn x (climb f k p) → IsIn x (climb f (suc k) id)
IsIn-climb_parent f k id p x e i = rw (climb-Some f k id p e) (inr i)

-- m is so many parents above n
abbrev pub Climbs : (ℕ → Option ℕ) → ℕ → ℕ → ℕ → Type 0
Climbs f zero n m = n ≡ m
Climbs f (suc k) n m = (p : ℕ) × (f n ≡ Some p) × Climbs f k p m

-- what is on a chain is so many parents above its beginning, and fewer than the chain is long
pub in_climb : (f : ℕ → Option ℕ) (k n x : ℕ) → IsIn x (climb f k n) → (j : ℕ) × Climbs f j n x × (j < k)
unfolding climb
in_climb f zero n x i = elim i [ ]
in_climb f (suc k) n x i = elim (climb_cases f k n x i) [
  | inl e ↦ (0, sym e, omega arith)
  | inr r ↦ let w = in_climb f k r.0 x r.2 in (suc w.0, (r.0, r.1, w.1), omega (arith, w.2))
]

-- and back
pub climb_in : (f : ℕ → Option ℕ) (k j n x : ℕ) → Climbs f j n x → j < k → IsIn x (climb f k n)
climb_in f zero j n x c l = absurd (omega arith)
climb_in f (suc k) zero n x c l = subst (λ y. IsIn y (climb f (suc k) n)) c (IsIn-climb_first f k n)
climb_in f (suc k) (suc j) n x c l = IsIn-climb_parent f k n c.0 x c.1 (climb_in f k j c.0 x c.2 (omega arith))

-- a chain that is cut off later has what it had
pub IsIn-climb_more : (f : ℕ → Option ℕ) (k id x : ℕ) → IsIn x (climb f k id) → IsIn x (climb f (suc k) id)
IsIn-climb_more f k id x i = let w = in_climb f k id x i in climb_in f (suc k) w.0 id x w.1 (omega (arith, w.2))

-- a chain that meets the root, which has no parent, stops
pub Stops-at_root : (f : ℕ → Option ℕ) (k id : ℕ) → f 0 ≡ None → IsIn 0 (climb f k id) → Stops f k id
unfolding climb
Stops-at_root f zero id root i = i
Stops-at_root f (suc k) id root i = grind (arith, climb_cases f k id 0 i, Stops-at_root f k)

-- a chain that stops is no longer for one step more
pub climb-stopped : (f : ℕ → Option ℕ) (k id : ℕ) → Stops f k id → climb f (suc k) id ≡ climb f k id
climb-stopped f zero id s = elim s [ ]
climb-stopped f (suc k) id s =
    grind (arith, climb-None f k id, climb-None f (suc k) id, climb-Some f k id, climb-Some f (suc k) id, climb-stopped f k)

-- and stops for one step more
Stops-more : (f : ℕ → Option ℕ) (k id : ℕ) → Stops f k id → Stops f (suc k) id
Stops-more f zero id s = elim s [ ]
Stops-more f (suc k) id s = grind (arith, Stops-more f k)

-- the chain of what is on a chain is the rest of it
pub climb_suffix : (f : ℕ → Option ℕ) (k id x : ℕ) → Stops f k id → IsIn x (climb f k id)
    → (front : List ℕ) × (climb f k id ≡ front ++ climb f k x) × Stops f k x
unfolding climb
climb_suffix f zero id x s i = elim s [ ]
climb_suffix f (suc k) id x s i = elim (climb_cases f k id x i) [
  | inl e ↦ ([], ap (climb f (suc k)) (sym e), subst (Stops f (suc k)) (sym e) s)
  | inr r ↦ later r.0 r.1 r.2 s (λ t. climb_suffix f k r.0 x t r.2)
]
  where
    later : (p : ℕ) → f id ≡ Some p → IsIn x (climb f k p) → Stops f (suc k) id
        → (Stops f k p → (front : List ℕ) × (climb f k p ≡ front ++ climb f k x) × Stops f k x)
        → (front : List ℕ) × (climb f (suc k) id ≡ front ++ climb f (suc k) x) × Stops f (suc k) x
    later p e j (inl none) rest = absurd (cc)
    later p e j (inr r) rest =
        let same : r.0 ≡ p = cc in
        let t = rest (subst (Stops f k) same r.2) in
        (id ∷ t.0, climb-Some f k id p e ∙ ap (λ xs. id ∷ xs) (t.1 ∙ ap (λ xs. t.0 ++ xs) (sym (climb-stopped f k x t.2))), Stops-more f k x t.2)

-- what is above something above is above
pub climb_trans : (f : ℕ → Option ℕ) (k id x y : ℕ) → Stops f k id → IsIn x (climb f k id) → IsIn y (climb f k x) → IsIn y (climb f k id)
climb_trans f k id x y s i j =
    let t = climb_suffix f k id x s i in
    subst (IsIn y) (sym t.1) (IsIn-append_right y t.0 (climb f k x) j)

-- chains that are the same begin alike
climb_first_same : (f : ℕ → Option ℕ) (k a b : ℕ) → Stops f k a → climb f k a ≡ climb f k b → a ≡ b
unfolding climb
climb_first_same f zero a b s e = elim s [ ]
climb_first_same f (suc k) a b s e = cc

-- two that are above each other are one
pub climb_antisym : (f : ℕ → Option ℕ) (k id x : ℕ) → Stops f k id → IsIn x (climb f k id) → IsIn id (climb f k x) → x ≡ id
climb_antisym f k id x s i j =
    let t = climb_suffix f k id x s i in
    let u = climb_suffix f k x id t.2 j in
    go t.0 t.1 (ap length t.1 ∙ length-append t.0 (climb f k x)) (ap length u.1 ∙ length-append u.0 (climb f k id))
  where
    go : (front : List ℕ) → climb f k id ≡ front ++ climb f k x → length (climb f k id) ≡ length front + length (climb f k x)
        → length (climb f k x) ≡ length (climb_suffix f k x id (climb_suffix f k id x s i).2 j).0 + length (climb f k id) → x ≡ id
    go [] e l m = sym (climb_first_same f k id x s e)
    go (y ∷ front) e l m = absurd (omega arith)

-- what is on a chain that meets the root is on a chain that does
pub climb_to_root : (f : ℕ → Option ℕ) (k id x : ℕ) → f 0 ≡ None → IsIn 0 (climb f k id) → IsIn x (climb f k id) → IsIn 0 (climb f k x)
unfolding climb
climb_to_root f zero id x root z i = elim i [ ]
climb_to_root f (suc k) id x root z i = grind (arith, climb_cases f k id x i, climb_cases f k id 0 z, IsIn-climb_more f k x 0, climb_to_root f k)

-- what is on a chain that meets the root has a parent, if it is not the root
pub climb_parent : (f : ℕ → Option ℕ) (k id x : ℕ) → f 0 ≡ None → IsIn 0 (climb f k id) → IsIn x (climb f k id) → (x ≡ 0 → ⊥)
    → (p : ℕ) × (f x ≡ Some p)
unfolding climb
climb_parent f zero id x root z i below = elim i [ ]
climb_parent f (suc k) id x root z i below = grind (arith, climb_cases f k x 0 (climb_to_root f (suc k) id x root z i))

-- two parent functions that agree on a chain have the same chain
pub climb-same : (f g : ℕ → Option ℕ) (k id : ℕ) → ((x : ℕ) → IsIn x (climb f k id) → g x ≡ f x) → climb g k id ≡ climb f k id
unfolding climb
climb-same f g zero id same = refl
climb-same f g (suc k) id same = grind (arith, same id, λ (p : ℕ). climb-same f g k p, same)

-- chains end within as many steps as they may take
pub length-climb : (f : ℕ → Option ℕ) (k id : ℕ) → length (climb f k id) ≤ k
unfolding climb
length-climb f zero id = omega arith
length-climb f (suc k) id = grind (arith, length-climb f k)

-- a chain that ends early is no longer for more steps
pub climb_short : (f : ℕ → Option ℕ) (k id : ℕ) → length (climb f (suc k) id) ≤ k → climb f k id ≡ climb f (suc k) id
unfolding climb
climb_short f zero id h = absurd (omega arith)
climb_short f (suc k) id h = grind (arith, climb_short f k)

-- what is on a chain is its beginning, or the parent of something on it
pub climb_child : (f : ℕ → Option ℕ) (k id x : ℕ) → IsIn x (climb f k id) → (x ≡ id) ⊎ ((y : ℕ) × IsIn y (climb f k id) × (f y ≡ Some x))
unfolding climb
climb_child f zero id x i = elim i [ ]
climb_child f (suc k) id x i = elim (climb_cases f k id x i) [
  | inl e ↦ inl e
  | inr r ↦ grind (arith, climb_child f k r.0 x r.2, IsIn-climb_parent f k id r.0, IsIn-climb_first f k id)
]
