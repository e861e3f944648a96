-- The leaf's block comes between what the tree has below it and what it has past it
use Rattle.std.proofs.Common.{ap, arith, ◌*◌, ◌/◌, ◌<◌, Some}
use Rattle.index_array.specs.Place.{index_count, entry_at, is_unmarked}
use Rattle.cyclic_ids.specs.Ids.{places_beside}
use Rattle.cyclic_ids.proofs.Beside.{entry_in_leaf, entry_in_tree}
use Rattle.cyclic_ids.proofs.Searches.{found_below, found_beyond, found_next, found_past, found_wider}
use Rattle.cyclic_ids.proofs.CyclicIds.next_unmarked.Goals as goal

pub returns-then-from-end : goal.returns-then-from-end
returns-then-from-end c =
    let i = c.self.inside in
    let past = c.if-from-end.true in
    rw (← c.self.view_is) (found_beyond (λ k. is_unmarked (entry_at (places_beside i.is_ready i.block i.leaf.places i.ids) k)) (λ k. is_unmarked (entry_at i.leaf.places k)) (λ k. is_unmarked (entry_at i.ids k)) i.block (λ k e. ap is_unmarked (entry_in_leaf i.is_ready i.block i.leaf.places i.ids k e)) (λ k e. ap is_unmarked (entry_in_tree i.is_ready i.block i.leaf.places i.ids k e)) (λ k e. ap is_unmarked (c.self.invariant.apart k e)) c.args.from index_count c.first_unmarked.result (omega (arith, past)) c.first_unmarked.ensures)

pub returns-in-Some : goal.returns-in-Some
returns-in-Some c =
    let i = c.self.inside in
    let low = c.self.invariant.low in
    let found = rw c.in-Some.is at c.first_unmarked-2.ensures in
    let below : c.in-Some.found / 64 < i.block = omega (arith, found.1) in
    rw (← c.self.view_is) (found_below (λ k. is_unmarked (entry_at (places_beside i.is_ready i.block i.leaf.places i.ids) k)) (λ k. is_unmarked (entry_at i.leaf.places k)) (λ k. is_unmarked (entry_at i.ids k)) i.block (λ k e. ap is_unmarked (entry_in_leaf i.is_ready i.block i.leaf.places i.ids k e)) (λ k e. ap is_unmarked (entry_in_tree i.is_ready i.block i.leaf.places i.ids k e)) c.args.from index_count (Some c.in-Some.found) (below, λ e. absurd (cc)) (found_wider (λ k. is_unmarked (entry_at i.ids k)) c.args.from (i.block * 64) index_count c.in-Some.found (omega (arith, low)) found))

pub returns-in-Some-next_unmarked : goal.returns-in-Some-next_unmarked
returns-in-Some-next_unmarked c =
    let i = c.self.inside in
    let low = c.self.invariant.low in
    let none = rw c.in_default.is at c.first_unmarked-2.ensures in
    let own = rw (c.saturating_sub.ensures, c.in-Some-next_unmarked.is) at c.next_unmarked.ensures in
    rw (← c.self.view_is) (found_next (λ k. is_unmarked (entry_at (places_beside i.is_ready i.block i.leaf.places i.ids) k)) (λ k. is_unmarked (entry_at i.leaf.places k)) (λ k. is_unmarked (entry_at i.ids k)) i.block (λ k e. ap is_unmarked (entry_in_leaf i.is_ready i.block i.leaf.places i.ids k e)) (λ k e. ap is_unmarked (entry_in_tree i.is_ready i.block i.leaf.places i.ids k e)) c.args.from index_count (omega (arith, low)) none c.in-Some-next_unmarked.slot own)

pub returns : goal.returns
returns c =
    let i = c.self.inside in
    let low = c.self.invariant.low in
    let near = c.if-from-end.false in
    let none = rw c.in_default.is at c.first_unmarked-2.ensures in
    let own = rw (c.saturating_sub.ensures, c.in_default-next_unmarked.is) at c.next_unmarked.ensures in
    rw (← c.self.view_is) (found_past (λ k. is_unmarked (entry_at (places_beside i.is_ready i.block i.leaf.places i.ids) k)) (λ k. is_unmarked (entry_at i.leaf.places k)) (λ k. is_unmarked (entry_at i.ids k)) i.block (λ k e. ap is_unmarked (entry_in_leaf i.is_ready i.block i.leaf.places i.ids k e)) (λ k e. ap is_unmarked (entry_in_tree i.is_ready i.block i.leaf.places i.ids k e)) c.args.from index_count (omega (arith, low)) none c.first_unmarked-3.result (omega (arith, near)) own c.first_unmarked-3.ensures)
