use Rattle.std.proofs.Common.{arith, subst, sym, IsSome}
use Rattle.ns_tree.specs.Tree.{TreeOfSpaces, AreInside, node_in, way}
use Rattle.ns_tree.proofs.Inner as inner
use Rattle.ns_tree.proofs.Nodes as nodes
use Rattle.ns_tree.proofs.SpaceTree.children.Goals as goal

pub members-requires : goal.members-requires
members-requires c =
    let there = subst (λ (t : TreeOfSpaces). IsSome (node_in t.nodes c.args.key)) (sym c.self.view_is) c.requires in
    let lt = nodes.way-in c.self.inside.places.nodes c.args.key (c.self.invariant.some c.args.key there) in
    let lists = c.self.invariant.lists in
    omega (arith, lt, lists)

pub returns : goal.returns
returns c =
    subst (λ (t : TreeOfSpaces). AreInside (way t.nodes) c.args.key c.members.result) c.self.view_is
    (inner.inside-from (way c.self.inside.places.nodes) c.self.inside.children c.self.invariant.owners c.args.key c.members.result c.members.ensures)
