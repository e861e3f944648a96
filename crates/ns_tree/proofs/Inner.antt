-- The lists of the namespaces directly inside each other.
use Rattle.std.proofs.Common.{◌≡◌, ◌≢◌, inl, inr, ℕ, ◌+◌, ◌<◌, ◌≤◌, ◌||◌, if◌then◌else◌, nat_lt, Bool, true, false, List, [], ◌∷◌, length, get_or, set, slice_get, Option, Some, None, IsSome, refl, sym, ap, ◌∙◌, arith}
use Rattle.std.proofs.lemmas.List.{get_or-set_same, get_or-set_other}
use Rattle.std.proofs.lemmas.Bool.{cases_eq, ne_eqb}
use Rattle.member_lists.specs.Owners.{owner_of, AreMembers}
use Rattle.pid_types.specs.Chains.{contains}
use Rattle.ns_tree.specs.Tree.{IsPathTree, AreInside, grown, outer_of}
use Rattle.ns_tree.proofs.Orders.{all-weaken}
use Rattle.ns_tree.proofs.Paths.{own-first}

module _ (ways : ℕ → List ℕ) (tree : IsPathTree ways) where
  -- what is on the path of one that is there, behind its key, begins with its key
  pub outer-new : (key parent : ℕ) → 0 < length (ways parent) → slice_get (key ∷ ways parent) 1 ≡ Some parent
  outer-new key parent some = elim (tree.head parent) [
    | inl none ↦ absurd (let l = ap length none in omega (arith, l, some))
    | inr way ↦ ap (λ p. slice_get p 0) way.1
  ]

  -- a namespace that is there and is not the root is in one
  pub outer-some : (key : ℕ) → key ≢ 0 → 0 < length (ways key) → IsSome (outer_of ways key)
  outer-some key inner some = go (ways key) (own-first ways tree key some) (tree.ends key some) some
    where
      go : (p : List ℕ) → get_or p 0 0 ≡ key → contains p 0 ≡ true → 0 < length p → IsSome (slice_get p 1)
      go [] own ends some = absurd (omega (arith, some))
      go (s ∷ []) own ends some = elim (cases_eq s 0) [
        | inl root ↦ absurd (inner (sym own ∙ root))
        | inr differs ↦ absurd (let z : false ≡ true = sym (ap (λ b. b || false) (ne_eqb s 0 differs)) ∙ ends in cc)
      ]
      go (s ∷ t ∷ ts) own ends some = refl

module _ (ways : ℕ → List ℕ) (children : List (Option ℕ)) (kept : (s : ℕ) → owner_of children s ≡ outer_of ways s) where
  -- the members of a list are directly inside
  pub inside-from : (outer : ℕ) (keys : List ℕ) → AreMembers children outer keys → AreInside ways outer keys
  inside-from outer keys m = record {
    once = λ s at. m.once s (kept s ∙ at);
    each = all-weaken (λ s. owner_of children s ≡ Some outer) (λ s. outer_of ways s ≡ Some outer) (λ s at. sym (kept s) ∙ at) keys m.owned;
  }

  -- where a namespace comes or goes, the lists change at its key alone
  pub owners-set : (ways' : ℕ → List ℕ) (key : ℕ) (o : Option ℕ) → key < length children → outer_of ways' key ≡ o
      → ((s : ℕ) → s ≢ key → ways' s ≡ ways s) → (s : ℕ) → owner_of (set children key o) s ≡ outer_of ways' s
  owners-set ways' key o room here others s = elim (cases_eq s key) [
    | inl same ↦ ap (owner_of (set children key o)) same ∙ get_or-set_same children key o None room ∙ sym here ∙ sym (ap (outer_of ways') same)
    | inr differs ↦ get_or-set_other children key s o None differs ∙ kept s ∙ ap (λ p. slice_get p 1) (sym (others s differs))
  ]

-- lists with room for all that are there and for one key have it for one more namespace
pub grown-le : (n key m : ℕ) → n ≤ m → key < m → grown n key ≤ m
grown-le n key m few lt = go (nat_lt key n)
  where
    go : (b : Bool) → (if b then n else key + 1) ≤ m
    go true = few
    go false = omega (arith, lt)
