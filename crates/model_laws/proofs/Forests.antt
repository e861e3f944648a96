-- Trees of things that have ids, and parents among them: namespaces, and control groups.
use Rattle.model_laws.proofs.Words.{◌≡◌, ℕ, zero, suc, ◌<◌, ◌≤◌, ◌==◌, List, [], ◌∷◌, ◌++◌, map, length, Option, Some, None, refl, sym, ap, ◌∙◌, subst, ◌⊎◌, inl, inr, arith, find, option_map, option_and_then, IfSome, fun_ext, eq-eqb, ne_eqb, climb, IsIn, IsRising, IsTree}
use Rattle.model_laws.proofs.Lists.{IsIn-from_map, find-map, find-none, find-append_found, find-append_last, each_pushed, option_both}
use Rattle.model_laws.proofs.Chains.{climb-same, climb_parent, climb_cases, climb_short, IsIn-climb_parent, IsIn-climb_more}
use Rattle.model_laws.proofs.Rising.{IsRising-push, find-key, find-key_at}

module _ (X : Type 0) (id : X → ℕ) (parent : X → Option ℕ) where
  -- the thing with the id
  abbrev pub at : List X → ℕ → Option X
  at xs n = find (λ x. id x == n) xs

  -- the id of its parent
  abbrev pub parent_at : List X → ℕ → Option ℕ
  parent_at xs n = option_and_then parent (at xs n)

  -- ---- what is there

  module _ (path : ℕ → List ℕ) (xs : List X) (tree : IsTree X id parent path xs) where
    -- a thing that is there is found by its id
    pub at-listed : (x : X) → IsIn x xs → at xs (id x) ≡ Some x
    at-listed x i = find-key id xs tree.rising x i

    -- the root has no parent
    pub root_parent : parent_at xs 0 ≡ None
    root_parent = ap (option_and_then parent) tree.root.1 ∙ tree.root.2

    -- a thing that is there has a path to the root
    pub path_to_root : (n : ℕ) (x : X) → at xs n ≡ Some x → IsIn 0 (path n)
    path_to_root n x e = let r = find-key_at id xs n x e in subst (λ m. IsIn 0 (path m)) r.1 (tree.chains x r.0)

    -- all on a path to the root are there
    pub chain_listed : (k n m : ℕ) → IsIn 0 (climb (parent_at xs) k n) → IsIn m (climb (parent_at xs) k n) → (x : X) × (at xs m ≡ Some x)
    chain_listed k n zero on i = (tree.root.0, tree.root.1)
    chain_listed k n (suc m) on i = let r = climb_parent (parent_at xs) k n (suc m) root_parent on i (λ e. omega arith) in grind arith

  -- ---- changes that keep ids and parents

  module _ (xs : List X) (f : X → X) (ids : (x : X) → id (f x) ≡ id x) (parents : (x : X) → parent (f x) ≡ parent x) where
    -- what is found is changed
    pub at-map : (n : ℕ) → at (map f xs) n ≡ option_map f (at xs n)
    at-map n = find-map f (λ x. id x == n) xs ∙ ap (λ p. option_map f (find p xs)) (fun_ext (λ x. ap (λ m. m == n) (ids x)))

    -- chains stay
    pub chain-map : (k n : ℕ) → climb (parent_at (map f xs)) k n ≡ climb (parent_at xs) k n
    chain-map k n = ap (λ g. climb g k n) (fun_ext (λ m. ap (option_and_then parent) (at-map m)
        ∙ option_both (at xs m) (λ o. option_and_then parent (option_map f o) ≡ option_and_then parent o) (λ e. refl) (λ x e. parents x)))

    ids-map : (ys : List X) → map id (map f ys) ≡ map id ys
    ids-map [] = refl
    ids-map (y ∷ ys) = rw (ids y, ids-map ys) refl

    -- the tree stays
    pub IsTree-map : (path next : ℕ → List ℕ) → ((n : ℕ) → next n ≡ path n) → IsTree X id parent path xs → IsTree X id parent next (map f xs)
    IsTree-map path next same tree = record {
      rising = subst IsRising (sym (ids-map xs)) tree.rising;
      older = λ x i.
          let r = IsIn-from_map f x xs i in
          subst (λ y. IfSome (parent y) (λ p. p < id y)) (sym r.2) (rw (parents r.0, ids r.0) (tree.older r.0 r.1));
      root = (f tree.root.0, at-map 0 ∙ ap (option_map f) tree.root.1, parents tree.root.0 ∙ tree.root.2);
      chains = λ x i.
          let r = IsIn-from_map f x xs i in
          subst (IsIn 0) (sym (same (id x))) (subst (λ m. IsIn 0 (path m)) (sym (ids r.0) ∙ ap id (sym r.2)) (tree.chains r.0 r.1));
    }

  -- ---- one thing more, with an id above the others

  module _ (xs : List X) (new : X) (above : (x : X) → IsIn x xs → id x < id new) where
    -- those from before are found as before
    pub at-push_old : (n : ℕ) (x : X) → at xs n ≡ Some x → at (xs ++ new ∷ []) n ≡ Some x
    at-push_old n x e = find-append_found (λ y. id y == n) xs (new ∷ []) x e

    -- no other id is found now
    pub at-push_none : (n : ℕ) → n < id new → at xs n ≡ None → at (xs ++ new ∷ []) n ≡ None
    at-push_none n l e = find-append_last (λ y. id y == n) xs (new ∷ []) e ∙ rw (ne_eqb (id new) n (λ same. omega arith)) refl

    -- the new id was nobody's
    pub not_there : at xs (id new) ≡ None
    not_there = find-none (λ y. id y == id new) xs (λ x i. ne_eqb (id x) (id new) (λ e. let l : id x < id new = above x i in omega arith))

    -- the new one is found
    pub at-push_new : at (xs ++ new ∷ []) (id new) ≡ Some new
    at-push_new = find-append_last (λ y. id y == id new) xs (new ∷ []) not_there ∙ rw (eq-eqb (id new) (id new) refl) refl

    -- chains to the root stay
    pub chain-push : (path : ℕ → List ℕ) → IsTree X id parent path xs → (k n : ℕ) → IsIn 0 (climb (parent_at xs) k n)
        → climb (parent_at (xs ++ new ∷ [])) k n ≡ climb (parent_at xs) k n
    chain-push path tree k n on = climb-same (parent_at xs) (parent_at (xs ++ new ∷ [])) k n (λ m i.
        let l = chain_listed path xs tree k n m on i in ap (option_and_then parent) (at-push_old m l.0 l.1 ∙ sym l.1))

    -- the tree has one more, if its path meets the root and the others stay
    pub IsTree-push : (path next : ℕ → List ℕ) → ((x : X) → IsIn x xs → next (id x) ≡ path (id x)) → IsIn 0 (next (id new))
        → IfSome (parent new) (λ p. p < id new) → IsTree X id parent path xs → IsTree X id parent next (xs ++ new ∷ [])
    IsTree-push path next same on elder tree = record {
      rising = IsRising-push id xs new tree.rising above;
      older = each_pushed (λ x. IfSome (parent x) (λ p. p < id x)) xs new tree.older elder;
      root = (tree.root.0, at-push_old 0 tree.root.0 tree.root.1, tree.root.2);
      chains = each_pushed (λ x. IsIn 0 (next (id x))) xs new (λ x j. subst (IsIn 0) (sym (same x j)) (tree.chains x j)) on;
    }

    -- what is above the new one is it, or above its parent
    pub chain-new_cases : (path : ℕ → List ℕ) → IsTree X id parent path xs → (k p n : ℕ) → parent new ≡ Some p → IsIn 0 (climb (parent_at xs) (suc k) p)
        → IsIn n (climb (parent_at (xs ++ new ∷ [])) (suc k) (id new)) → (n ≡ id new) ⊎ IsIn n (climb (parent_at xs) (suc k) p)
    chain-new_cases path tree k p n up on i = elim (climb_cases (parent_at (xs ++ new ∷ [])) k (id new) n i) [
      | inl e ↦ inl e
      | inr r ↦
          let a : parent_at (xs ++ new ∷ []) (id new) ≡ Some r.0 = r.1 in
          let b : parent_at (xs ++ new ∷ []) (id new) ≡ Some p = ap (option_and_then parent) at-push_new ∙ up in
          let same : r.0 ≡ p = cc in
          inr (subst (IsIn n) (chain-push path tree (suc k) p on)
          (IsIn-climb_more (parent_at (xs ++ new ∷ [])) k p n (subst (λ q. IsIn n (climb (parent_at (xs ++ new ∷ [])) k q)) same r.2)))
    ]

    -- and all above its parent is, where the parent's chain leaves room for one more
    pub IsIn-chain_new : (path : ℕ → List ℕ) → IsTree X id parent path xs → (k p n : ℕ) → parent new ≡ Some p → IsIn 0 (climb (parent_at xs) (suc k) p)
        → length (climb (parent_at xs) (suc k) p) ≤ k → IsIn n (climb (parent_at xs) (suc k) p) → IsIn n (climb (parent_at (xs ++ new ∷ [])) (suc k) (id new))
    IsIn-chain_new path tree k p n up on room i =
        let after : ℕ → Option ℕ = parent_at (xs ++ new ∷ []) in
        let same : climb after (suc k) p ≡ climb (parent_at xs) (suc k) p = chain-push path tree (suc k) p on in
        IsIn-climb_parent after k (id new) p n (ap (option_and_then parent) at-push_new ∙ up)
        (subst (IsIn n) (sym (climb_short after k p (subst (λ q. length q ≤ k) (sym same) room) ∙ same)) i)
