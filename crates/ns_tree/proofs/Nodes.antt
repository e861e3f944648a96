-- The namespaces by key: what stays true where one falls.
use Rattle.std.proofs.Common.{inl, inr, ◌≡◌, ℕ, ◌<◌, List, [], length, slice_get, Option, Some, None, IsSome, refl, sym, ap, subst, ◌∙◌, arith, option_map}
use Rattle.std.specs.Option.{option_map_or}
use Rattle.std.proofs.lemmas.Bool.{cases_lt}
use Rattle.std.proofs.lemmas.List.{get_or_past}
use Rattle.ns_tree.specs.Tree.{Node, IsPathTree, node_in, way, id_in}
use Rattle.ns_tree.specs.Places.{IsSpaceTree}
use Rattle.ns_tree.proofs.Orders as orders

-- a namespace with a path is in range
pub way-in : (nodes : List (Option Node)) (s : ℕ) → 0 < length (way nodes s) → s < length nodes
way-in nodes s some = elim (cases_lt s (length nodes)) [
  | inl lt ↦ lt
  | inr past ↦ absurd (let l = ap (λ o. length (option_map_or (λ t. t.path) o [])) (get_or_past nodes s None past) in omega (arith, l, some))
]

-- what has an id is there
has-id : (o p : Option Node) → option_map (λ t. t.id) o ≡ option_map (λ t. t.id) p → IsSome o → IsSome p
has-id None p same some = absurd (cc)
has-id (Some t) None same some = absurd (cc)
has-id (Some t) (Some u) same some = refl

-- where the paths and the ids stay, all that is known stays
pub kept-same : (old new : List (Option Node)) → length new ≡ length old → ((s : ℕ) → way new s ≡ way old s) → ((s : ℕ) → id_in new s ≡ id_in old s)
    → (order : List (ℕ × ℕ)) (children : List (Option ℕ)) → IsSpaceTree old order children → IsSpaceTree new order children
kept-same old new len ways ids order children k = record {
  tree = subst IsPathTree (λ i s. sym (ways s) i) k.tree;
  some = λ s is. subst (λ (p : List ℕ). 0 < length p) (sym (ways s)) (k.some s (has-id (node_in new s) (node_in old s) (ids s) is));
  listed = orders.listed-same (id_in old) (id_in new) order k.listed ids;
  owners = λ s. k.owners s ∙ ap (λ p. slice_get p 1) (sym (ways s));
  lists = let l = k.lists in omega (arith, len, l);
}

-- a namespace that fell keeps its path and its id
pub same-path : (g : Node → Node) → ((t : Node) → (g t).path ≡ t.path) → (o : Option Node) → option_map_or (λ t. t.path) (option_map g o) [] ≡ option_map_or (λ t. t.path) o []
same-path g same None = refl
same-path g same (Some t) = same t

pub same-id : (g : Node → Node) → ((t : Node) → (g t).id ≡ t.id) → (o : Option Node) → option_map (λ t. t.id) (option_map g o) ≡ option_map (λ t. t.id) o
same-id g same None = refl
same-id g same (Some t) = ap Some (same t)
