use Rattle.std.proofs.Common.{ap, arith}
use Rattle.index_array.specs.Place.{entry_at, is_marked}
use Rattle.cyclic_ids.specs.Ids.{places_beside}
use Rattle.cyclic_ids.proofs.Beside.{entry_in_leaf, entry_in_tree}
use Rattle.cyclic_ids.proofs.Searches.{found_below, found_beyond, found_lesser}
use Rattle.cyclic_ids.proofs.CyclicIds.search_marked.Goals as goal

pub returns-then-from-self : goal.returns-then-from-self
returns-then-from-self c =
    rw (← c.self.view_is) (found_beyond (λ k. is_marked c.args.m (entry_at (places_beside c.self.inside.is_ready c.self.inside.block c.self.inside.leaf.places c.self.inside.ids) k)) (λ k. is_marked c.args.m (entry_at c.self.inside.leaf.places k)) (λ k. is_marked c.args.m (entry_at c.self.inside.ids k)) c.self.inside.block (λ k e. ap (is_marked c.args.m) (entry_in_leaf c.self.inside.is_ready c.self.inside.block c.self.inside.leaf.places c.self.inside.ids k e)) (λ k e. ap (is_marked c.args.m) (entry_in_tree c.self.inside.is_ready c.self.inside.block c.self.inside.leaf.places c.self.inside.ids k e)) (λ k e. ap (is_marked c.args.m) (c.self.invariant.apart k e)) c.args.from _ _ c.if-from-self.true c.next_marked-found.ensures)

pub returns-then-is_below : goal.returns-then-is_below
returns-then-is_below c =
    rw (← c.self.view_is) (found_below (λ k. is_marked c.args.m (entry_at (places_beside c.self.inside.is_ready c.self.inside.block c.self.inside.leaf.places c.self.inside.ids) k)) (λ k. is_marked c.args.m (entry_at c.self.inside.leaf.places k)) (λ k. is_marked c.args.m (entry_at c.self.inside.ids k)) c.self.inside.block (λ k e. ap (is_marked c.args.m) (entry_in_leaf c.self.inside.is_ready c.self.inside.block c.self.inside.leaf.places c.self.inside.ids k e)) (λ k e. ap (is_marked c.args.m) (entry_in_tree c.self.inside.is_ready c.self.inside.block c.self.inside.leaf.places c.self.inside.ids k e)) c.args.from _ _ (c.is_below.ensures.below c.if-is_below.true) c.next_marked-found.ensures)

pub returns : goal.returns
returns c =
    let own = rw c.saturating_sub-start.ensures at c.next_marked.ensures in
    let fits = c.self.invariant.low in
    rw (← c.self.view_is, c.lesser_of.ensures) (found_lesser (λ k. is_marked c.args.m (entry_at (places_beside c.self.inside.is_ready c.self.inside.block c.self.inside.leaf.places c.self.inside.ids) k)) (λ k. is_marked c.args.m (entry_at c.self.inside.leaf.places k)) (λ k. is_marked c.args.m (entry_at c.self.inside.ids k)) c.self.inside.block (λ k e. ap (is_marked c.args.m) (entry_in_leaf c.self.inside.is_ready c.self.inside.block c.self.inside.leaf.places c.self.inside.ids k e)) (λ k e. ap (is_marked c.args.m) (entry_in_tree c.self.inside.is_ready c.self.inside.block c.self.inside.leaf.places c.self.inside.ids k e)) (λ k e. ap (is_marked c.args.m) (c.self.invariant.apart k e)) c.args.from _ _ _ c.if-from-self.false (omega (arith, fits)) c.next_marked-found.ensures own)
