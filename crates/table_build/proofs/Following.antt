-- What follows in a list of namespaces or control groups that is a tree.
use Rattle.std.proofs.Common.{◌≡◌, inl, inr, ℕ, zero, suc, ◌-◌, ◌<◌, ◌≤◌, ◌==◌, Bool, true, List, [], ◌∷◌, ◌++◌, length, take, drop, map, find, slice_get, Option, Some, None, IsSome, is_some, if◌then◌else◌, refl, sym, ap, subst, ◌∙◌, arith, option_and_then}
use Rattle.std.specs.Prelude.{IfSome}
use Rattle.pid_types.proofs.General.{apart}
use Rattle.pid_types.specs.Chains.{climb}
use Rattle.pid_types.specs.Membership.{IsIn}
use Rattle.pid_types.specs.Sound.{IsRising, IsTree}
use Rattle.model_laws.proofs.Chains.{Stops-at_root, climb-same, climb-stopped, climb_cases, length-climb}
use Rattle.model_laws.proofs.Rising.{find-key, find-key_at}

-- a climb by parents that are below never goes up
climb_low : (f : ℕ → Option ℕ) → ((n p : ℕ) → f n ≡ Some p → p < n) → (k n x : ℕ) → IsIn x (climb f k n) → x ≤ n
unfolding climb
climb_low f low zero n x i = absurd i
climb_low f low (suc k) n x i = elim (climb_cases f k n x i) [
  | inl same ↦ omega (arith, same)
  | inr up ↦ let below = climb_low f low k up.0 x up.2 in let less = low n up.0 up.1 in omega (arith, below, less)
]

module _ {X : Type 0} (id : X → ℕ) (parent : X → Option ℕ) (deepest : ℕ) where
  abbrev pub at : List X → ℕ → Option X
  at xs n = find (λ y. id y == n) xs

  abbrev pub up : List X → ℕ → Option ℕ
  up xs n = option_and_then parent (at xs n)

  in_left : (y : X) (xs ys : List X) → IsIn y xs → IsIn y (xs ++ ys)
  in_left y [] ys i = absurd i
  in_left y (z ∷ zs) ys (inl e) = inl e
  in_left y (z ∷ zs) ys (inr i) = inr (in_left y zs ys i)

  pub in_middle : (y : X) (xs ys : List X) → IsIn y (xs ++ y ∷ ys)
  in_middle y [] ys = inl refl
  in_middle y (z ∷ zs) ys = inr (in_middle y zs ys)

  ids_in : (y : X) (xs : List X) → IsIn y xs → IsIn (id y) (map id xs)
  ids_in y [] i = absurd i
  ids_in y (z ∷ zs) (inl e) = inl (ap id e)
  ids_in y (z ∷ zs) (inr i) = inr (ids_in y zs i)

  pub all-below : (before rest : List X) (x : X) → IsRising (map id (before ++ x ∷ rest)) → (y : X) → IsIn y before → id y < id x
  all-below [] rest x rise y i = absurd i
  all-below (z ∷ zs) rest x rise y (inl e) = let lt = rise.0 (id x) (ids_in x (zs ++ x ∷ rest) (in_middle x zs rest)) in let same = ap id e in omega (arith, lt, same)
  all-below (z ∷ zs) rest x rise y (inr i) = all-below zs rest x rise.1 y i

  above_all : (before rest : List X) (x : X) → IsRising (map id (before ++ x ∷ rest)) → (y : X) → IsIn y rest → id x < id y
  above_all [] rest x rise y i = rise.0 (id y) (ids_in y rest i)
  above_all (z ∷ zs) rest x rise y i = above_all zs rest x rise.1 y i

  rising_before : (before rest : List X) → IsRising (map id (before ++ rest)) → IsRising (map id before)
  rising_before [] rest rise = tt
  rising_before (z ∷ zs) rest rise = (λ m i. rise.0 m (in_ids zs m i), rising_before zs rest rise.1)
    where
      in_ids : (zs : List X) (m : ℕ) → IsIn m (map id zs) → IsIn m (map id (zs ++ rest))
      in_ids [] m i = absurd i
      in_ids (w ∷ ws) m (inl e) = inl e
      in_ids (w ∷ ws) m (inr i) = inr (in_ids ws m i)

  -- the root stands first
  pub first-root : (path : ℕ → List ℕ) (xs : List X) (x : X) → slice_get xs 0 ≡ Some x → IsTree X id parent path xs → (id x ≡ 0) × (parent x ≡ None)
  first-root path [] x e tree = absurd (cc)
  first-root path (y ∷ ys) x e tree =
      let first : y ≡ x = cc in
      let r = find-key_at id (y ∷ ys) 0 tree.root.0 tree.root.1 in
      let none : id y ≡ 0 = go r.0 r.1 in
      let found : Some y ≡ Some tree.root.0 = sym (find-key id (y ∷ ys) tree.rising y (inl refl)) ∙ ap (at (y ∷ ys)) none ∙ tree.root.1 in
      let same : y ≡ tree.root.0 = cc in
      (ap id (sym first) ∙ none, ap parent (sym first ∙ same) ∙ tree.root.2)
    where
      go : IsIn tree.root.0 (y ∷ ys) → id tree.root.0 ≡ 0 → id y ≡ 0
      go (inl e) none = sym (ap id e) ∙ none
      go (inr i) none = absurd (let lt = tree.rising.0 (id tree.root.0) (ids_in tree.root.0 ys i) in omega (arith, lt, none))

  -- a list about one of its places
  pub parted : (xs : List X) (i : ℕ) (x : X) → slice_get xs i ≡ Some x → xs ≡ take i xs ++ x ∷ drop (suc i) xs
  parted [] i x e = absurd (cc)
  parted (y ∷ ys) zero x e = (let z : y ≡ x = cc in ap (λ w. w ∷ ys) z)
  parted (y ∷ ys) (suc i) x e = ap (λ zs. y ∷ zs) (parted ys i x e)

  -- whoever is at the place before
  pub lastly : (xs : List X) (i : ℕ) (y : X) → 0 < i → slice_get xs (i - 1) ≡ Some y → IsIn y (take i xs)
  lastly xs zero y some e = absurd (omega (arith, some))
  lastly xs (suc j) y some e = stands xs j (sym (ap (slice_get xs) (let z : suc j - 1 ≡ j = omega arith in z)) ∙ e)
    where
      stands : (xs : List X) (j : ℕ) → slice_get xs j ≡ Some y → IsIn y (take (suc j) xs)
      stands [] j e = absurd (cc)
      stands (z ∷ zs) zero e = inl (let w : y ≡ z = cc in w)
      stands (z ∷ zs) (suc j) e = inr (stands zs j e)

  -- whoever has a smaller id stands before
  is_before : (before rest : List X) (x y : X) → IsRising (map id (before ++ x ∷ rest)) → IsIn y (before ++ x ∷ rest) → id y < id x → IsIn y before
  is_before [] rest x y rise (inl e) less = absurd (let same = ap id e in omega (arith, less, same))
  is_before [] rest x y rise (inr i) less = absurd (let lt = rise.0 (id y) (ids_in y rest i) in omega (arith, less, lt))
  is_before (z ∷ zs) rest x y rise (inl e) less = inl e
  is_before (z ∷ zs) rest x y rise (inr i) less = inr (is_before zs rest x y rise.1 i less)

  -- and is found there
  found_before : (before rest : List X) (x : X) → IsRising (map id (before ++ x ∷ rest)) → (n : ℕ) → n < id x → at (before ++ x ∷ rest) n ≡ at before n
  found_before [] rest x rise n less = nobody (x ∷ rest) (λ y i. not_less y i)
    where
      not_less : (y : X) → IsIn y (x ∷ rest) → n < id y
      not_less y (inl e) = let same = ap id e in omega (arith, less, same)
      not_less y (inr i) = let lt = rise.0 (id y) (ids_in y rest i) in omega (arith, less, lt)

      nobody : (ys : List X) → ((y : X) → IsIn y ys → n < id y) → at ys n ≡ None
      nobody [] all = refl
      nobody (y ∷ ys) all = ap (λ (b : Bool). if b then Some y else at ys n) (apart (id y) n (λ same. let lt = all y (inl refl) in omega (arith, lt, same))) ∙ nobody ys (λ w i. all w (inr i))
  found_before (z ∷ zs) rest x rise n less = ap (λ o. if id z == n then Some z else o) (found_before zs rest x rise.1 n less)

  module _ (before rest : List X) (x : X) (tree : IsTree X id parent (climb (up (before ++ x ∷ rest)) (suc deepest)) (before ++ x ∷ rest)) (above : 0 < id x) where
    abbrev all : List X
    all = before ++ x ∷ rest

    root_up : up all 0 ≡ None
    root_up = ap (option_and_then parent) tree.root.1 ∙ tree.root.2

    lower : (n p : ℕ) → up all n ≡ Some p → p < n
    lower n p e = go (at all n) refl e
      where
        go : (o : Option X) → at all n ≡ o → option_and_then parent o ≡ Some p → p < n
        go None is e = absurd (cc)
        go (Some y) is e =
            let f = find-key_at id all n y is in
            let less : p < id y = subst (λ (o : Option ℕ). IfSome o (λ q. q < id y)) e (tree.older y f.0) in
            let same = f.1 in omega (arith, less, same)

    -- it is in one of those before it, which is not too deep
    pub inside : (p : ℕ) × (parent x ≡ Some p) × IsSome (at before p) × (length (climb (up before) (suc deepest) p) ≤ deepest)
    unfolding climb
    inside = elim (climb_cases (up all) deepest (id x) 0 (tree.chains x (in_middle x before rest))) [
      | inl same ↦ absurd (omega (arith, above, same))
      | inr step ↦
          let own : up all (id x) ≡ parent x = ap (option_and_then parent) (find-key id all tree.rising x (in_middle x before rest)) in
          let less = lower (id x) step.0 step.1 in
          (step.0, sym own ∙ step.1, there step.0 step.2 less, short step.0 step.2 less)
    ]
      where
        there : (p : ℕ) → IsIn 0 (climb (up all) deepest p) → p < id x → IsSome (at before p)
        there p i less = go (at all p) refl
          where
            go : (o : Option X) → at all p ≡ o → is_some (at before p) ≡ true
            go (Some y) is = ap is_some (sym (found_before before rest x tree.rising p less) ∙ is)
            go None is = absurd (stuck deepest i)
              where
                stuck : (k : ℕ) → IsIn 0 (climb (up all) k p) → ⊥
                stuck zero i = i
                stuck (suc k) i = elim (climb_cases (up all) k p 0 i) [
                  | inl same ↦ (let z : None ≡ Some tree.root.0 = sym is ∙ ap (at all) (sym same) ∙ tree.root.1 in absurd (cc))
                  | inr step ↦ (let z : None ≡ Some step.0 = sym (ap (option_and_then parent) is) ∙ step.1 in absurd (cc))
                ]

        short : (p : ℕ) → IsIn 0 (climb (up all) deepest p) → p < id x → length (climb (up before) (suc deepest) p) ≤ deepest
        short p i less =
            let same = climb-same (up all) (up before) (suc deepest) p (λ n j. let low = climb_low (up all) lower (suc deepest) p n j in
            ap (option_and_then parent) (sym (found_before before rest x tree.rising n (omega (arith, low, less))))) in
            let stops = climb-stopped (up all) deepest p (Stops-at_root (up all) deepest p root_up i) in
            let len = length-climb (up all) deepest p in
            let all_len = ap length (same ∙ stops) in
            omega (arith, len, all_len)
