use Rattle.std.proofs.Common.{ap, sym, ◌∙◌, length, arith, option_map}
use Rattle.ns_tree.specs.Tree.{node_in}
use Rattle.ns_tree.specs.Places.{Placed, node_of}
use Rattle.ns_tree.proofs.Placed as placed
use Rattle.ns_tree.proofs.places.Places.make_room.Goals as goal

pub returns-clause-near : goal.returns-clause-near
returns-clause-near c =
    let n = placed.count c.self.inside.keys c.self.inside.slab in
    let l = ap (λ (s : Placed). length s.nodes) c.self.view_is in
    let few = c.if-key-self.false in
    omega (arith, n, l, few)

pub returns-clause-vacant : goal.returns-clause-vacant
returns-clause-vacant c =
    ap (λ (s : Placed). node_in s.nodes c.in_ok-key.key) (sym c.self.view_is) ∙ placed.node-at c.self.inside.keys c.self.inside.slab c.self.invariant c.in_ok-key.key
    ∙ ap (option_map node_of) c.in_ok-key.ensures.vacant
