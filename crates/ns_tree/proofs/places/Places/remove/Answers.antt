use Rattle.std.proofs.Common.{ap, sym, ◌∙◌, None, length, option_map}
use Rattle.ns_tree.specs.Tree.{node_in}
use Rattle.ns_tree.specs.Places.{Placed, node_of, nodes_of, first}
use Rattle.ns_tree.proofs.Placed as placed
use Rattle.ns_tree.proofs.places.Places.remove.Goals as goal
use Rattle.ns_tree.proofs.places.Places.remove.Goals.{After-remove}

pub remove-requires : goal.remove-requires
remove-requires c = placed.contains-there c.self.inside.keys c.self.inside.slab c.self.invariant c.args.self.now c.self.view_is c.args.key c.requires

pub returns-clause-value : goal.returns-clause-value
returns-clause-value c =
    ap (λ (s : Placed). node_in s.nodes c.args.key) (sym c.self.view_is) ∙ placed.node-at c.self.inside.keys c.self.inside.slab c.self.invariant c.args.key
    ∙ ap (option_map node_of) c.remove.ensures.value

seen : (c : After-remove) → placed.IsSeen c.self.inside.keys (first c.self.inside.keys (nodes_of c.self.inside.slab.slots)) c.self.inside.keys (first c.self.inside.keys (nodes_of c.remove.new.self.slots)) c.args.key None
seen c =
    let u = c.remove.ensures.updates in
    placed.seen c.self.inside.keys c.self.inside.slab c.self.invariant c.self.inside.keys c.remove.new.self c.args.key None u
    (placed.past-gone c.self.inside.keys c.self.inside.slab c.self.invariant c.remove.new.self c.args.key u)

pub returns-clause-here : goal.returns-clause-here
returns-clause-here c = (seen (goal.at.returns-clause-here c).After-remove).here

pub returns-clause-others : goal.returns-clause-others
returns-clause-others c s differs = (seen (goal.at.returns-clause-others c).After-remove).others s differs ∙ ap (λ (t : Placed). node_in t.nodes s) c.self.view_is

pub returns-clause-count : goal.returns-clause-count
returns-clause-count c =
    let s = seen (goal.at.returns-clause-count c).After-remove in
    s.now ∙ sym s.was ∙ ap (λ (t : Placed). length t.nodes) c.self.view_is
