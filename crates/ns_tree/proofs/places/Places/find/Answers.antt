use Rattle.std.proofs.Common.{ap, sym, ◌∙◌, option_map}
use Rattle.ns_tree.specs.Tree.{node_in}
use Rattle.ns_tree.specs.Places.{Placed, node_of}
use Rattle.ns_tree.proofs.Placed as placed
use Rattle.ns_tree.proofs.places.Places.find.Goals as goal

pub returns : goal.returns
returns c =
    ap (option_map node_of) c.get.ensures ∙ sym (placed.node-at c.self.inside.keys c.self.inside.slab c.self.invariant c.args.key)
    ∙ ap (λ (s : Placed). node_in s.nodes c.args.key) c.self.view_is
