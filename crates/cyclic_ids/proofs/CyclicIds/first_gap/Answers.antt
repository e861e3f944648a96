use Rattle.std.proofs.Common.{ap, ◌≡◌, arith, min, is_some, not}
use Rattle.index_array.specs.Place.{entry_at}
use Rattle.cyclic_ids.specs.Ids.{places_beside, entry_beside}
use Rattle.cyclic_ids.proofs.Beside.{entry_in_leaf, entry_in_tree, entry-beside}
use Rattle.cyclic_ids.proofs.Searches.{found_same, none_outside, found_outside, found_on}
use Rattle.cyclic_ids.proofs.CyclicIds.first_gap.Goals as goal

pub returns-then-from-self : goal.returns-then-from-self
returns-then-from-self c =
    rw (← c.self.view_is) (found_same (λ k. not (is_some (entry_at (places_beside c.self.inside.is_ready c.self.inside.block c.self.inside.leaf.places c.self.inside.ids) k))) (λ k. not (is_some (entry_beside c.self.inside.block c.self.inside.leaf.places c.self.inside.ids k))) _ _ _ (λ k. ap (λ o. not (is_some o)) (entry-beside c.self.inside.is_ready c.self.inside.block c.self.inside.leaf.places c.self.inside.ids k)) c.gap_from_leaf.ensures)

pub returns-in-None : goal.returns-in-None
returns-in-None c =
    let bound : min c.self.inside.pid_max 16777216 ≡ c.self.inside.pid_max = omega (arith, c.self.invariant.bound.1) in
    let none = rw (bound, c.in-None.is) at c.first_gap.ensures in
    rw (← c.self.view_is) (none_outside (λ k. not (is_some (entry_at (places_beside c.self.inside.is_ready c.self.inside.block c.self.inside.leaf.places c.self.inside.ids) k))) (λ k. not (is_some (entry_at c.self.inside.leaf.places k))) (λ k. not (is_some (entry_at c.self.inside.ids k))) c.self.inside.block (λ k e. ap (λ o. not (is_some o)) (entry_in_leaf c.self.inside.is_ready c.self.inside.block c.self.inside.leaf.places c.self.inside.ids k e)) (λ k e. ap (λ o. not (is_some o)) (entry_in_tree c.self.inside.is_ready c.self.inside.block c.self.inside.leaf.places c.self.inside.ids k e)) (λ k e. ap (λ o. not (is_some o)) (c.self.invariant.apart k e)) _ _ none)

pub returns-then-n-self : goal.returns-then-n-self
returns-then-n-self c =
    let bound : min c.self.inside.pid_max 16777216 ≡ c.self.inside.pid_max = omega (arith, c.self.invariant.bound.1) in
    let found = rw (bound, c.in-Some.is) at c.first_gap.ensures in
    rw (← c.self.view_is) (found_outside (λ k. not (is_some (entry_at (places_beside c.self.inside.is_ready c.self.inside.block c.self.inside.leaf.places c.self.inside.ids) k))) (λ k. not (is_some (entry_at c.self.inside.leaf.places k))) (λ k. not (is_some (entry_at c.self.inside.ids k))) c.self.inside.block (λ k e. ap (λ o. not (is_some o)) (entry_in_leaf c.self.inside.is_ready c.self.inside.block c.self.inside.leaf.places c.self.inside.ids k e)) (λ k e. ap (λ o. not (is_some o)) (entry_in_tree c.self.inside.is_ready c.self.inside.block c.self.inside.leaf.places c.self.inside.ids k e)) (λ k e. ap (λ o. not (is_some o)) (c.self.invariant.apart k e)) _ _ _ c.if-n-self.true found)

pub returns-else-n-self : goal.returns-else-n-self
returns-else-n-self c =
    let bound : min c.self.inside.pid_max 16777216 ≡ c.self.inside.pid_max = omega (arith, c.self.invariant.bound.1) in
    let found = rw (bound, c.in-Some.is) at c.first_gap.ensures in
    rw (← c.self.view_is) (found_on (λ k. not (is_some (entry_at (places_beside c.self.inside.is_ready c.self.inside.block c.self.inside.leaf.places c.self.inside.ids) k))) (λ k. not (is_some (entry_at c.self.inside.leaf.places k))) (λ k. not (is_some (entry_at c.self.inside.ids k))) c.self.inside.block (λ k e. ap (λ o. not (is_some o)) (entry_in_leaf c.self.inside.is_ready c.self.inside.block c.self.inside.leaf.places c.self.inside.ids k e)) (λ k e. ap (λ o. not (is_some o)) (entry_in_tree c.self.inside.is_ready c.self.inside.block c.self.inside.leaf.places c.self.inside.ids k e)) (λ k e. ap (λ o. not (is_some o)) (c.self.invariant.apart k e)) _ _ _ _ found (found_same (λ k. not (is_some (entry_at (places_beside c.self.inside.is_ready c.self.inside.block c.self.inside.leaf.places c.self.inside.ids) k))) (λ k. not (is_some (entry_beside c.self.inside.block c.self.inside.leaf.places c.self.inside.ids k))) _ _ _ (λ k. ap (λ o. not (is_some o)) (entry-beside c.self.inside.is_ready c.self.inside.block c.self.inside.leaf.places c.self.inside.ids k)) c.gap_from_leaf-in-Some.ensures))
