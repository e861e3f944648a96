-- The tree where it begins, where a namespace comes, and where one goes.
use Rattle.std.proofs.Common.{◌≡◌, ◌≢◌, ◌⊎◌, inl, inr, ℕ, zero, suc, ◌<◌, ◌≤◌, ◌==◌, true, false, List, [], ◌∷◌, length, get_or, refl, sym, ap, subst, ◌∙◌, arith, lit≤}
use Rattle.std.proofs.lemmas.Bool.{cases_eq, eq-eqb, both_ways, or_parts, or_right}
use Rattle.pid_types.specs.Chains.{contains}
use Rattle.ns_tree.specs.Tree.{IsPath, IsPathTree}

-- what is true of each path, where one alone is another
each-way : (ways ways' : ℕ → List ℕ) (key : ℕ) → ((s : ℕ) → s ≢ key → ways' s ≡ ways s) → (P : ℕ → List ℕ → Type 0) → P key (ways' key) → ((s : ℕ) → s ≢ key → P s (ways s)) → (s : ℕ) → P s (ways' s)
each-way ways ways' key others P here there s = elim (cases_eq s key) [
  | inl e ↦ subst (λ (z : ℕ). P z (ways' z)) (sym e) here
  | inr m ↦ subst (P s) (sym (others s m)) (there s m)
]

-- the root alone
module _ (ways : ℕ → List ℕ) (root : ways 0 ≡ 0 ∷ []) (others : (s : ℕ) → s ≢ 0 → ways s ≡ []) where
  each_path : (P : ℕ → List ℕ → Type 0) → P 0 (0 ∷ []) → ((s : ℕ) → P s []) → (s : ℕ) → P s (ways s)
  each_path P one none = each-way (λ _. []) ways 0 others P (subst (P 0) (sym root) one) (λ s m. none s)

  pub tree-founded : IsPathTree ways
  tree-founded = record {
    root = root;
    head = each_path (λ s p. (p ≡ []) ⊎ ((rest : List ℕ) × (p ≡ s ∷ rest))) (inr ([], refl)) (λ s. inl refl);
    paths = each_path (λ s p. IsPath ways p) (root, tt) (λ s. tt);
    few = each_path (λ s p. length p ≤ 33) (lit≤ tt) (λ s. lit≤ tt);
    ends = each_path (λ s p. 0 < length p → contains p 0 ≡ true) (λ up. refl) (λ s up. absurd (omega (arith, up)));
  }

-- a namespace more, at a key that had none
module _ (ways ways' : ℕ → List ℕ) (tree : IsPathTree ways) (key parent : ℕ) (was : ways key ≡ []) (now : ways' key ≡ key ∷ ways parent) (others : (s : ℕ) → s ≢ key → ways' s ≡ ways s) where
  -- none is on the path of another
  pub away-path : (p : List ℕ) → IsPath ways p → (j : ℕ) → j < length p → get_or p j 0 ≢ key
  away-path [] h j lt e = absurd (omega (arith, lt))
  away-path (s ∷ ss) h zero lt e = let bad : s ∷ ss ≡ [] = sym h.0 ∙ ap ways e ∙ was in cc
  away-path (s ∷ ss) h (suc j) lt e = away-path ss h.1 j (omega (arith, lt)) e

  path_kept : (p : List ℕ) → IsPath ways p → IsPath ways' p
  path_kept [] h = tt
  path_kept (s ∷ ss) h = (others s (away-path (s ∷ ss) h 0 (omega arith)) ∙ h.0, path_kept ss h.1)

  pub not_root : 0 ≢ key
  not_root e = let bad : 0 ∷ [] ≡ [] = sym tree.root ∙ ap ways e ∙ was in cc

  pub tree-added : 0 < length (ways parent) → length (ways parent) < 33 → IsPathTree ways'
  tree-added there few = record {
    root = others 0 not_root ∙ tree.root;
    head = each-way ways ways' key others (λ s p. (p ≡ []) ⊎ ((rest : List ℕ) × (p ≡ s ∷ rest))) (inr (ways parent, now)) (λ s m. tree.head s);
    paths = each-way ways ways' key others (λ s p. IsPath ways' p) (subst (IsPath ways') (sym now) (now, path_kept (ways parent) (tree.paths parent))) (λ s m. path_kept (ways s) (tree.paths s));
    few = each-way ways ways' key others (λ s p. length p ≤ 33) (let l = ap length now in omega (arith, l, few)) (λ s m. tree.few s);
    ends = each-way ways ways' key others (λ s p. 0 < length p → contains p 0 ≡ true)
        (λ some. ap (λ p. contains p 0) now ∙ or_right (key == 0) (contains (ways parent) 0) (tree.ends parent there)) (λ s m. tree.ends s);
  }

-- a namespace less, which none is inside
module _ (ways ways' : ℕ → List ℕ) (tree : IsPathTree ways) (key : ℕ) (inner : key ≢ 0) (bare : (s : ℕ) → s ≢ key → contains (ways s) key ≡ false) (gone : ways' key ≡ []) (others : (s : ℕ) → s ≢ key → ways' s ≡ ways s) where
  path_stays : (p : List ℕ) → contains p key ≡ false → IsPath ways p → IsPath ways' p
  path_stays [] off h = tt
  path_stays (s ∷ ss) off h =
      let r = or_parts (s == key) (contains ss key) off in
      (others s (λ e. both_ways (s == key) r.0 (eq-eqb s key e)) ∙ h.0, path_stays ss r.1 h.1)

  pub tree-dropped : IsPathTree ways'
  tree-dropped = record {
    root = others 0 (λ e. inner (sym e)) ∙ tree.root;
    head = each-way ways ways' key others (λ s p. (p ≡ []) ⊎ ((rest : List ℕ) × (p ≡ s ∷ rest))) (inl gone) (λ s m. tree.head s);
    paths = each-way ways ways' key others (λ s p. IsPath ways' p) (subst (IsPath ways') (sym gone) tt) (λ s m. path_stays (ways s) (bare s m) (tree.paths s));
    few = each-way ways ways' key others (λ s p. length p ≤ 33) (let l = ap length gone in omega (arith, l)) (λ s m. tree.few s);
    ends = each-way ways ways' key others (λ s p. 0 < length p → contains p 0 ≡ true) (λ some. absurd (let l = ap length gone in omega (arith, l, some))) (λ s m. tree.ends s);
  }
