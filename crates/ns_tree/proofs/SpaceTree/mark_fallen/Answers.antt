use Rattle.std.proofs.Common.{refl, ◌∙◌, ap, [], option_map, arith}
use Rattle.std.proofs.lemmas.Grind.{common_steps}
use Rattle.std.specs.Option.{option_map_or}
use Rattle.ns_tree.specs.Tree.{felled, way, id_in, node_in}
use Rattle.ns_tree.proofs.Nodes as nodes
use Rattle.ns_tree.proofs.Paths.{everywhere}
use Rattle.ns_tree.proofs.SpaceTree.mark_fallen.Goals as goal

pub returns-clause-count : goal.returns-clause-count
returns-clause-count c = grind (arith, common_steps)

pub invariant_of-self : goal.invariant_of-self
invariant_of-self c =
    let old = c.self.inside.places.nodes in
    let new = c.mark_fallen.new.self.nodes in
    let was = node_in old c.args.key in
    nodes.kept-same old new c.mark_fallen.ensures.count
    (everywhere (way new) (way old) c.args.key (ap (λ o. option_map_or (λ t. t.path) o []) c.mark_fallen.ensures.here ∙ nodes.same-path felled (λ t. refl) was) (λ s m. ap (λ o. option_map_or (λ t. t.path) o []) (c.mark_fallen.ensures.others s m)))
    (everywhere (id_in new) (id_in old) c.args.key (ap (option_map (λ t. t.id)) c.mark_fallen.ensures.here ∙ nodes.same-id felled (λ t. refl) was) (λ s m. ap (option_map (λ t. t.id)) (c.mark_fallen.ensures.others s m)))
    c.self.inside.order c.self.inside.children c.self.invariant
