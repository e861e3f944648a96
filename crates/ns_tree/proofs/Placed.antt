-- The places of namespaces in a slab: what is seen of them, and what a change of one key leaves.
use Rattle.std.proofs.Common.{inl, inr, zero, suc, true, ◌≡◌, ◌≢◌, ℕ, ◌+◌, ◌<◌, ◌≤◌, List, [], ◌∷◌, length, get_or, Option, Some, None, IsSome, refl, sym, ap, subst, ◌∙◌, arith, option_map}
use Rattle.std.proofs.Math.ListN.{get_or-map}
use Rattle.std.proofs.lemmas.List.{get_or_past}
use Rattle.std.proofs.lemmas.Bool.{cases_eq, cases_lt}
use Rattle.std.proofs.lemmas.Bool.Decides.{nat_tests}
use Rattle.slab.specs.Slab.{Slab, ContainsKey, Updates, get, with_value}
use Rattle.slab.proofs.SlabLemmas.{Updates-with_value}
use Rattle.ns_tree.specs.declared.places.Place.{Place}
use Rattle.ns_tree.specs.Tree.{Node, felled, grown, node_in}
use Rattle.ns_tree.specs.Places.{Placed, node_of, nodes_of, placed_of, first, HasNoneFrom}

module _ {X : Type 0} where
  length-first : (n : ℕ) (slots : List (Option X)) → length (first n slots) ≡ n
  length-first zero slots = refl
  length-first (suc n) [] = ap suc (length-first n [])
  length-first (suc n) (s ∷ slots) = ap suc (length-first n slots)

  first-in : (n : ℕ) (slots : List (Option X)) (k : ℕ) → k < n → get_or (first n slots) k None ≡ get_or slots k None
  first-in zero slots k lt = absurd (omega (arith, lt))
  first-in (suc n) [] zero lt = refl
  first-in (suc n) [] (suc k) lt = first-in n [] k (omega (arith, lt))
  first-in (suc n) (s ∷ slots) zero lt = refl
  first-in (suc n) (s ∷ slots) (suc k) lt = first-in n slots k (omega (arith, lt))

  -- where no slot from there on has anything, each key has what it has among all slots
  at-first : (n : ℕ) (slots : List (Option X)) → ((k : ℕ) → n ≤ k → get_or slots k None ≡ None) → (k : ℕ) → get_or (first n slots) k None ≡ get_or slots k None
  at-first n slots past k = elim (cases_lt k n) [
    | inl lt ↦ first-in n slots k lt
    | inr over ↦ get_or_past (first n slots) k None (let l = length-first n slots in omega (arith, l, over)) ∙ sym (past k over)
  ]

module _ (keys : ℕ) (slab : Slab Place) where
  slot-at : (k : ℕ) → get_or (nodes_of slab.slots) k None ≡ option_map node_of (get slab k)
  slot-at k = get_or-map (option_map node_of) slab.slots k None

  -- the namespace at a key
  pub node-at : HasNoneFrom keys slab → (k : ℕ) → node_in (first keys (nodes_of slab.slots)) k ≡ option_map node_of (get slab k)
  node-at past k = at-first keys (nodes_of slab.slots) (λ j over. slot-at j ∙ ap (option_map node_of) (past j over)) k ∙ slot-at k

  pub count : length (first keys (nodes_of slab.slots)) ≡ keys
  count = length-first keys (nodes_of slab.slots)

-- what is seen once one key has another place, or none
pub record IsSeen (keys : ℕ) (old : List (Option Node)) (more : ℕ) (new : List (Option Node)) (key : ℕ) (node : Option Node) : Type 0 where
  pub here : node_in new key ≡ node
  pub others : (k : ℕ) → k ≢ key → node_in new k ≡ node_in old k
  pub was : length old ≡ keys
  pub now : length new ≡ more

module _ (keys : ℕ) (old : Slab Place) (past : HasNoneFrom keys old) (more : ℕ) (new : Slab Place) (key : ℕ) (slot : Option Place) (u : Updates old new key slot) where
  -- no key from there on comes to have one
  pub past-kept : keys ≤ more → key < more → HasNoneFrom more new
  past-kept le lt k over = u.others k (λ same. (omega (arith, same, over, lt))) ∙ past k (omega (arith, le, over))

  pub seen : HasNoneFrom more new → IsSeen keys (first keys (nodes_of old.slots)) more (first more (nodes_of new.slots)) key (option_map node_of slot)
  seen later = record {
    here = node-at more new later key ∙ ap (option_map node_of) u.changed;
    others = λ k differs. node-at more new later k ∙ ap (option_map node_of) (u.others k differs) ∙ sym (node-at keys old past k);
    was = count keys old;
    now = count more new;
  }

-- how many keys there are with one more, which was given before or comes next
pub grown-given : (keys key : ℕ) → key < keys → grown keys key ≡ keys
grown-given keys key lt = grind (arith, nat_tests, lt)

pub grown-next : (keys : ℕ) → grown keys keys ≡ keys + 1
grown-next keys = grind (arith, nat_tests)

-- a key with a namespace has a place
pub has-place : (o : Option Place) (seen : Option Node) → option_map node_of o ≡ seen → IsSome seen → IsSome o
has-place None seen is some = absurd (cc)
has-place (Some p) seen is some = refl

module _ (keys : ℕ) (slab : Slab Place) (past : HasNoneFrom keys slab) where
  pub contains-there : (seen : Placed) → placed_of keys slab ≡ seen → (key : ℕ) → IsSome (node_in seen.nodes key) → ContainsKey slab key
  contains-there seen is key some =
      has-place (get slab key) (node_in seen.nodes key) (sym (node-at keys slab past key) ∙ ap (λ (t : Placed). node_in t.nodes key) is) some

  -- a key that was given keeps its place, or loses it
  pub past-gone : (new : Slab Place) (key : ℕ) → Updates slab new key None → HasNoneFrom keys new
  past-gone new key u k over = elim (cases_eq k key) [
    | inl same ↦ ap (get new) same ∙ u.changed
    | inr differs ↦ u.others k differs ∙ past k over
  ]

  pub below : (key : ℕ) → ContainsKey slab key → key < keys
  below key has = elim (cases_lt key keys) [
    | inl lt ↦ lt
    | inr over ↦ absurd (let none = past key over in cc)
  ]

  -- what a key has that falls
  pub felled-seen : (key : ℕ) (place : Place) → get slab key ≡ Some place
      → IsSeen keys (first keys (nodes_of slab.slots)) keys (first keys (nodes_of (with_value slab key (record place { fallen = true })).slots)) key (Some (felled (node_of place)))
  felled-seen key place at =
      let has : ContainsKey slab key = subst IsSome (sym at) refl in
      let u = Updates-with_value slab key (record place { fallen = true }) has in
      seen keys slab past keys (with_value slab key (record place { fallen = true })) key (Some (record place { fallen = true })) u
      (past-kept keys slab past keys (with_value slab key (record place { fallen = true })) key (Some (record place { fallen = true })) u (omega arith) (below key has))
