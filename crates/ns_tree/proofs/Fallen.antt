-- A walk over the namespaces inside one, which marks them: after the one itself come those directly inside, each with all inside it.
use Rattle.std.proofs.Common.{◌||◌, ◌≡◌, ◌≢◌, inl, inr, ℕ, ◌+◌, ◌<◌, List, [], ◌∷◌, ◌++◌, ◌==◌, Bool, true, false, length, slice_get, Option, Some, None, IsSome, option_map, refl, sym, ap, subst, ◌∙◌, arith}
use Rattle.std.specs.Cmp.{both_ways}
use Rattle.std.specs.List.{AllByRecursion, list_any}
use Rattle.std.specs.Option.{option_map_or}
use Rattle.std.proofs.lemmas.Bool.{cases_eq, eq-eqb, ne_eqb, or_right}
use Rattle.std.proofs.lemmas.List.Folds.{list_any-append}
use Rattle.member_lists.specs.Owners.{owner_of, times, AreMembers}
use Rattle.member_lists.proofs.Owners.{times-later}
use Rattle.pid_types.specs.Chains.{contains}
use Rattle.ns_tree.specs.Tree.{Node, IsPath, IsPathTree, felled, felled_within, outer_of}
use Rattle.ns_tree.proofs.Paths as paths

-- whether the walk has come to a namespace, after it has come to some of those directly inside
abbrev pub is_met : ℕ → List ℕ → ℕ → List ℕ → Bool
is_met outer inner s path = s == outer || list_any (contains path) inner

-- the namespace, fallen if the walk has come to it
abbrev pub fallen_so_far : ℕ → List ℕ → ℕ → Option Node → Option Node
fallen_so_far outer inner s o = option_map {T = Node} (λ t. record t { fallen = t.fallen || is_met outer inner s t.path }) o

-- a namespace that fell keeps its path
pub so_far-path : (outer : ℕ) (inner : List ℕ) (s : ℕ) (o : Option Node) → option_map_or (λ t. t.path) (fallen_so_far outer inner s o) [] ≡ option_map_or (λ t. t.path) o []
so_far-path outer inner s None = refl
so_far-path outer inner s (Some t) = refl

-- and it was there
pub was-there : (outer : ℕ) (inner : List ℕ) (s : ℕ) (o : Option Node) → IsSome (fallen_so_far outer inner s o) → IsSome o
was-there outer inner s None some = some
was-there outer inner s (Some t) some = refl

-- the one itself
pub begun : (outer : ℕ) (first new : ℕ → Option Node) → new outer ≡ option_map felled (first outer) → ((s : ℕ) → s ≢ outer → new s ≡ first s) → (s : ℕ) → new s ≡ fallen_so_far outer [] s (first s)
begun outer first new here others s = elim (cases_eq s outer) [
  | inl same ↦ ap new same ∙ here ∙ fell (first outer) ∙ sym (ap (λ k. fallen_so_far outer [] k (first k)) same)
  | inr differs ↦ others s differs ∙ stands (first s) differs
]
  where
    fell : (o : Option Node) → option_map felled o ≡ fallen_so_far outer [] outer o
    fell None = refl
    fell (Some t) = ap (λ b. Some (record t { fallen = b })) (sym (or_right t.fallen (outer == outer || false) (ap (λ b. b || false) (eq-eqb outer outer refl))))

    stands : (o : Option Node) → s ≢ outer → o ≡ fallen_so_far outer [] s o
    stands None differs = refl
    stands (Some t) differs = let off = ne_eqb s outer differs in ap (λ b. Some (record t { fallen = b })) (grind arith)

-- one of those directly inside, with all inside it
pub one_more : (outer : ℕ) (inner : List ℕ) (next s : ℕ) (first old new : Option Node) → old ≡ fallen_so_far outer inner s first → new ≡ option_map (felled_within next) old → new ≡ fallen_so_far outer (inner ++ next ∷ []) s first
one_more outer inner next s first old new so_far here = here ∙ ap (option_map (felled_within next)) so_far ∙ go first
  where
    go : (o : Option Node) → option_map (felled_within next) (fallen_so_far outer inner s o) ≡ fallen_so_far outer (inner ++ next ∷ []) s o
    go None = refl
    go (Some t) = let more = list_any-append (contains t.path) inner (next ∷ []) in ap (λ b. Some (record t { fallen = b })) (grind arith)

-- a list that has a key meets what holds of it
met : (p : ℕ → Bool) (k : ℕ) (keys : List ℕ) → times k keys ≡ 1 → p k ≡ true → list_any p keys ≡ true
met p k [] once holds = absurd (omega (arith, once))
met p k (j ∷ js) once holds = elim (cases_eq j k) [
  | inl same ↦ ap (λ b. b || list_any p js) (ap p same ∙ holds)
  | inr differs ↦ or_right (p j) (list_any p js) (met p k js (sym (times-later j k js differs) ∙ once) holds)
]

-- and what it meets holds of one of its keys
meets : (p : ℕ → Bool) (P : ℕ → Type 0) (keys : List ℕ) → AllByRecursion P keys → list_any p keys ≡ true → (k : ℕ) × P k × (p k ≡ true)
meets p P [] all any = absurd (cc)
meets p P (j ∷ js) all any = go (p j) refl any (meets p P js all.1)
  where
    go : (b : Bool) → p j ≡ b → (b || list_any p js) ≡ true → (list_any p js ≡ true → (k : ℕ) × P k × (p k ≡ true)) → (k : ℕ) × P k × (p k ≡ true)
    go true is any later = (j, all.0, is)
    go false is any later = later any

module _ (ways : ℕ → List ℕ) (outer : ℕ) where
  -- a path with a namespace that is directly inside has the one around it
  around : (inner : ℕ) → outer_of ways inner ≡ Some outer → (path : List ℕ) → IsPath ways path → contains path inner ≡ true → contains path outer ≡ true
  around inner inside [] is within = absurd (cc)
  around inner inside (s ∷ ss) is within = elim (cases_eq s inner) [
    | inl same ↦ or_right (s == outer) (contains ss outer) (second ss (sym (ap (λ p. slice_get p 1) (sym (ap ways same) ∙ is.0)) ∙ inside))
    | inr differs ↦ or_right (s == outer) (contains ss outer) (around inner inside ss is.1 (sym (ap (λ b. b || contains ss inner) (ne_eqb s inner differs)) ∙ within))
  ]
    where
      second : (ss : List ℕ) → slice_get (s ∷ ss) 1 ≡ Some outer → contains ss outer ≡ true
      second [] at = absurd (cc)
      second (t ∷ ts) at = ap (λ b. b || contains ts outer) (eq-eqb t outer (ap (λ o. option_map_or (λ n. n) o t) at))

  -- and a path with the one around begins with it, or has one that is directly inside
  leads : (s : ℕ) (ss : List ℕ) → IsPath ways (s ∷ ss) → contains (s ∷ ss) outer ≡ true → s ≢ outer → (inner : ℕ) × (outer_of ways inner ≡ Some outer) × (contains (s ∷ ss) inner ≡ true)
  leads s [] is within differs = absurd (let none = ne_eqb s outer differs in cc)
  leads s (t ∷ ts) is within differs = elim (cases_eq t outer) [
    | inl same ↦ (s, ap (λ p. slice_get p 1) is.0 ∙ ap Some same, ap (λ b. b || contains (t ∷ ts) s) (eq-eqb s s refl))
    | inr other ↦
        let rest = leads t ts is.1 (sym (ap (λ b. b || contains (t ∷ ts) outer) (ne_eqb s outer differs)) ∙ within) other in
        (rest.0, rest.1, or_right (s == rest.0) (contains (t ∷ ts) rest.0) rest.2)
  ]

module _ (ways : ℕ → List ℕ) (tree : IsPathTree ways) (outer : ℕ) where
  -- who is directly inside is one level deeper
  pub deeper : (inner : ℕ) → outer_of ways inner ≡ Some outer → length (ways inner) ≡ length (ways outer) + 1
  deeper inner inside = go (ways inner) (tree.paths inner) inside
    where
      go : (path : List ℕ) → IsPath ways path → slice_get path 1 ≡ Some outer → length path ≡ length (ways outer) + 1
      go [] is at = absurd (cc)
      go (s ∷ []) is at = absurd (cc)
      go (s ∷ t ∷ ts) is at = let len = ap length (ap ways (sym (ap (λ o. option_map_or (λ n. n) o t) at)) ∙ is.1.0) in omega (arith, len)

  module _ (children : List (Option ℕ)) (owned : (s : ℕ) → owner_of children s ≡ outer_of ways s) (inner : List ℕ) (all : AreMembers children outer inner) where
    -- a walk that has come to all directly inside has come to all inside
    whole : (s : ℕ) → 0 < length (ways s) → is_met outer inner s (ways s) ≡ contains (ways s) outer
    whole s some = elim (cases_eq s outer) [
      | inl same ↦ ap (λ b. b || any) (eq-eqb s outer same) ∙ sym (ap (contains (ways s)) (sym same) ∙ paths.own-in ways tree s some)
      | inr differs ↦ ap (λ b. b || any) (ne_eqb s outer differs) ∙ both_ways any (contains (ways s) outer) up (down differs)
    ]
      where
        any : Bool
        any = list_any (contains (ways s)) inner

        up : any ≡ true → contains (ways s) outer ≡ true
        up e = let k = meets (contains (ways s)) (λ k. owner_of children k ≡ Some outer) inner all.owned e in around ways outer k.0 (sym (owned k.0) ∙ k.1) (ways s) (tree.paths s) k.2

        down : s ≢ outer → contains (ways s) outer ≡ true → any ≡ true
        down differs within = elim (tree.head s) [
          | inl none ↦ absurd (let l = ap length none in omega (arith, l, some))
          | inr way ↦
              let k = leads ways outer s way.0 (subst (IsPath ways) way.1 (tree.paths s)) (sym (ap (λ p. contains p outer) way.1) ∙ within) differs in
              met (contains (ways s)) k.0 inner (all.once k.0 (owned k.0 ∙ k.1)) (ap (λ p. contains p k.0) way.1 ∙ k.2)
        ]

    pub all_met : (s : ℕ) (o : Option Node) → option_map_or (λ t. t.path) o [] ≡ ways s → (IsSome o → 0 < length (ways s)) → fallen_so_far outer inner s o ≡ option_map (felled_within outer) o
    all_met s None path some = refl
    all_met s (Some t) path some = ap (λ b. Some (record t { fallen = t.fallen || b })) (ap (is_met outer inner s) path ∙ whole s (some refl) ∙ sym (ap (λ p. contains p outer) path))
