-- None is inside a namespace that is not there
use Rattle.std.proofs.Common.{◌≡◌, ◌∙◌, ℕ, false, List, [], length, Option, None, option_map, refl, ap, subst, arith}
use Rattle.std.proofs.lemmas.Grind.{common_steps}
use Rattle.std.specs.Option.{option_map_or}
use Rattle.std.proofs.lemmas.Bool.{false_from_ne_true}
use Rattle.pid_types.specs.Chains.{contains}
use Rattle.ns_tree.specs.Tree.{Node, TreeOfSpaces, IsPathTree, felled_within, node_in, way}
use Rattle.ns_tree.proofs.Nodes as nodes
use Rattle.ns_tree.proofs.Paths as paths
use Rattle.ns_tree.proofs.SpaceTree.fell.Goals as goal

pub returns-then-is_some-clause-count : goal.returns-then-is_some-clause-count
returns-then-is_some-clause-count c = grind (arith, common_steps)

pub invariant_of-self : goal.invariant_of-self
invariant_of-self c =
    let old = c.self.inside.places.nodes in
    nodes.kept-same old c.fall_within.new.places.nodes c.fall_within.ensures.count
    (λ s. ap (λ o. option_map_or (λ t. t.path) o []) (c.fall_within.ensures.nodes s) ∙ nodes.same-path (felled_within c.args.outer) (λ t. refl) (node_in old s))
    (λ s. ap (option_map (λ t. t.id)) (c.fall_within.ensures.nodes s) ∙ nodes.same-id (felled_within c.args.outer) (λ t. refl) (node_in old s))
    c.self.inside.order c.self.inside.children c.self.invariant

-- no path has it
out : (ways : ℕ → List ℕ) → IsPathTree ways → (outer : ℕ) → ways outer ≡ [] → (s : ℕ) → contains (ways s) outer ≡ false
out ways tree outer none s = false_from_ne_true (contains (ways s) outer) (λ e. let some = (paths.within ways tree s outer e).0 in let l = ap length none in omega (arith, some, l))

stands : (outer : ℕ) (o : Option Node) → contains (option_map_or (λ t. t.path) o []) outer ≡ false → o ≡ option_map (felled_within outer) o
stands outer o off = grind arith

pub returns-else-is_some-clause-nodes : goal.returns-else-is_some-clause-nodes
returns-else-is_some-clause-nodes c =
    let places = c.self.inside.places.nodes in
    let at = c.find.ensures in
    let off = c.is_some.ensures in
    let is = c.if-is_some.false in
    let none : node_in places c.args.outer ≡ None = grind arith in
    let none_way : way places c.args.outer ≡ [] = ap (λ o. option_map_or (λ t. t.path) o []) none in
    subst (λ (t : TreeOfSpaces). (s : ℕ) → node_in t.nodes s ≡ option_map (felled_within c.args.outer) (node_in t.nodes s)) c.self.view_is
    (λ s. stands c.args.outer (node_in places s) (out (way places) c.self.invariant.tree c.args.outer none_way s))
