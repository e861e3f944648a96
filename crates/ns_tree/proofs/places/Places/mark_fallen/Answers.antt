use Rattle.std.proofs.Common.{ap, sym, ◌∙◌, length, option_map}
use Rattle.ns_tree.specs.Tree.{felled, node_in}
use Rattle.ns_tree.specs.Places.{Placed, node_of}
use Rattle.ns_tree.proofs.Placed as placed
use Rattle.ns_tree.proofs.places.Places.mark_fallen.Goals as goal

pub index_mut-requires : goal.index_mut-requires
index_mut-requires c = placed.contains-there c.self.inside.keys c.self.inside.slab c.self.invariant c.args.self.now c.self.view_is c.args.key c.requires

pub returns-clause-here : goal.returns-clause-here
returns-clause-here c =
    (placed.felled-seen c.self.inside.keys c.self.inside.slab c.self.invariant c.args.key c.index_mut.result.now c.index_mut.ensures.value).here
    ∙ sym (ap (λ (s : Placed). option_map felled (node_in s.nodes c.args.key)) (sym c.self.view_is)
    ∙ ap (option_map felled) (placed.node-at c.self.inside.keys c.self.inside.slab c.self.invariant c.args.key ∙ ap (option_map node_of) c.index_mut.ensures.value))

pub returns-clause-others : goal.returns-clause-others
returns-clause-others c s differs =
    (placed.felled-seen c.self.inside.keys c.self.inside.slab c.self.invariant c.args.key c.index_mut.result.now c.index_mut.ensures.value).others s differs
    ∙ ap (λ (t : Placed). node_in t.nodes s) c.self.view_is

pub returns-clause-count : goal.returns-clause-count
returns-clause-count c =
    let s = placed.felled-seen c.self.inside.keys c.self.inside.slab c.self.invariant c.args.key c.index_mut.result.now c.index_mut.ensures.value in
    s.now ∙ sym s.was ∙ ap (λ (t : Placed). length t.nodes) c.self.view_is
