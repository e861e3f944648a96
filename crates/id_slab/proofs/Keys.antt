-- The keys of ids where one more is added, and where some are left out.
use Rattle.std.proofs.Common.{◌≡◌, ℕ, ◌==◌, List, [], ◌∷◌, ◌++◌, cond, Bool, true, false, if◌then◌else◌, Some, None, unwrap_or, refl, sym, ap, subst, ◌∙◌, arith}
use Rattle.std.specs.List.{AllByRecursion, filter}
use Rattle.std.proofs.lemmas.Bool.{eq-eqb, eqb-true, ne_eqb}
use Rattle.id_slab.specs.Ids.{key_of, AreBelow}

-- what holds of each entry holds of an id and its key
pub entry_of : (P : ℕ → ℕ → Type 0) (ids : List (ℕ × ℕ)) (i k : ℕ) → AllByRecursion (λ p. P p.0 p.1) ids → key_of ids i ≡ Some k → P i k
entry_of P [] i k all e = absurd (cc)
entry_of P (p ∷ ids) i k all e = go (p.0 == i) refl (λ f. entry_of P ids i k all.1 f) e
  where
    go : (b : Bool) → (p.0 == i) ≡ b → (key_of ids i ≡ Some k → P i k) → (if b then Some p.1 else key_of ids i) ≡ Some k → P i k
    go true is again e = subst (λ a. P a k) (eqb-true p.0 i is) (subst (P p.0) (ap (λ o. unwrap_or o 0) e) all.0)
    go false is again e = again e

-- an id keeps its key where another is added
pub key_of-push : (ids : List (ℕ × ℕ)) (id key i k : ℕ) → key_of ids i ≡ Some k → key_of (ids ++ (id, key) ∷ []) i ≡ Some k
key_of-push [] id key i k e = absurd (cc)
key_of-push (p ∷ ids) id key i k e = go (p.0 == i) (λ f. key_of-push ids id key i k f) e
  where
    go : (b : Bool) → (key_of ids i ≡ Some k → key_of (ids ++ (id, key) ∷ []) i ≡ Some k) → (if b then Some p.1 else key_of ids i) ≡ Some k → (if b then Some p.1 else key_of (ids ++ (id, key) ∷ []) i) ≡ Some k
    go true again e = e
    go false again e = again e

-- and one above all has its own
pub key_of-new : (ids : List (ℕ × ℕ)) (id key : ℕ) → AreBelow ids id → key_of (ids ++ (id, key) ∷ []) id ≡ Some key
key_of-new [] id key all = ap (λ (b : Bool). if b then Some key else None) (eq-eqb id id refl)
key_of-new (p ∷ ids) id key all = ap (λ (b : Bool). if b then Some p.1 else key_of (ids ++ (id, key) ∷ []) id) (ne_eqb p.0 id (λ e. let h = all.0 in omega (arith, h, e))) ∙ key_of-new ids id key all.1

-- an id keeps its key where that is kept
pub key_of-kept : (keep : ℕ → Bool) (ids : List (ℕ × ℕ)) (i k : ℕ) → keep k ≡ true → key_of ids i ≡ Some k → key_of (filter (λ p. keep p.1) ids) i ≡ Some k
key_of-kept keep [] i k on e = absurd (cc)
key_of-kept keep (p ∷ ids) i k on e = go (keep p.1) refl (p.0 == i) refl (λ f. key_of-kept keep ids i k on f) e
  where
    go : (c : Bool) → keep p.1 ≡ c → (b : Bool) → (p.0 == i) ≡ b → (key_of ids i ≡ Some k → key_of (filter (λ q. keep q.1) ids) i ≡ Some k) → (if b then Some p.1 else key_of ids i) ≡ Some k
        → key_of (cond c (p ∷ filter (λ q. keep q.1) ids) (filter (λ q. keep q.1) ids)) i ≡ Some k
    go true s true t again e = ap (λ (b : Bool). if b then Some p.1 else key_of (filter (λ q. keep q.1) ids) i) t ∙ e
    go true s false t again e = ap (λ (b : Bool). if b then Some p.1 else key_of (filter (λ q. keep q.1) ids) i) t ∙ again e
    go false s true t again e =
        let same : p.1 ≡ k = ap (λ o. unwrap_or o 0) e in
        absurd (let bad : false ≡ true = sym s ∙ ap keep same ∙ on in cc)
    go false s false t again e = again e
