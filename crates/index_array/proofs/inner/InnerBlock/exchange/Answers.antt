-- A leaf is swapped below one child, and the bits of that child are asked of it anew; all entries outside the leaf stay
use Rattle.std.proofs.Common.{rules, arith, ap, ◌∙◌, ◌≡◌, ◌+◌, ◌/◌, ◌%◌, ◌^◌, None, Some, []}
use Rattle.index_array.specs.Tree.{kids}
use Rattle.index_array.proofs.Ways.{Way, way_child, way_rest}
use Rattle.index_array.proofs.Kids.{kid_way, kids_set, is_empty}
use Rattle.std.proofs.Math.ListN.{set}
use Rattle.index_array.proofs.Changes.{Changed}
use Rattle.index_array.proofs.Descent.{child_changed}
use Rattle.index_array.proofs.Exchanges.{swaps_empty, swaps_child}
use Rattle.index_array.proofs.inner.InnerBlock.exchange.Goals as goal
use Rattle.index_array.proofs.inner.InnerBlock.exchange.Goals.{In-Some, Then-is_none, After-rest_of, After-set_slot}

-- what stands at the slot of the index
child : (g : _) (c : In-Some g) → Way (g.C.Block.height + 1) (kids g.C.Block.tree c.self.inside.children.items) c.args.i c.slot_of-slot.result (Some (g.C.Block.tree c.in-Some.child.value))
child g c =
    kid_way g.C.Block.tree _ _ c.self.inside.children.items c.self.invariant _ c.self.view_is (omega arith) _ _ c.requires.covered (c.slot_of-slot.ensures ∙ ap (λ n. c.args.i / 64 ^ (n + 1)) c.height-height.ensures) _ _ c.index_mut.ensures.value c.in-Some.is

none : (g : _) (c : Then-is_none g) → Way (g.C.Block.height + 1) (kids g.C.Block.tree c.self.inside.children.items) c.args.i c.slot_of-slot.result None
none g c =
    kid_way g.C.Block.tree _ _ c.self.inside.children.items c.self.invariant _ c.self.view_is (omega arith) _ _ c.requires.covered (c.slot_of-slot.ensures ∙ ap (λ n. c.args.i / 64 ^ (n + 1)) c.height-height.ensures) _ _ c.index.ensures (is_empty _ _ c.is_none.ensures c.if-is_none.true)

-- the index below the child
rest : (g : _) (c : After-rest_of g) → c.rest_of.result ≡ c.args.i % 64 ^ (g.C.Block.height + 1)
rest g c = c.rest_of.ensures ∙ ap (λ n. c.args.i % 64 ^ (n + 1)) c.height-height.ensures

pub exchange-requires-clause-covered : goal.exchange-requires-clause-covered
exchange-requires-clause-covered g c =
    let at = goal.at.exchange-requires-clause-covered g c in
    way_rest _ _ _ _ c.self.invariant _ _ _ (child g at.In-Some) _ (ap g.C.Block.tree c.deref_mut-child.ensures.value) _ (rest g at.After-rest_of)

pub exchange-requires-clause-room : goal.exchange-requires-clause-room
exchange-requires-clause-room g c =
    let at = goal.at.exchange-requires-clause-room g c in
    let here = way_child _ _ _ _ c.self.invariant _ _ _ (child g at.In-Some) in
    let room = rw (← c.self.view_is) at c.requires.room in
    rw (c.deref_mut-child.ensures.value, rest g at.After-rest_of) (λ off. room (ap (λ p. p.prepared) here ∙ off))

-- the node with the other leaf
changed : (g : _) (c : After-set_slot g) → Way (g.C.Block.height + 1) (kids g.C.Block.tree c.self.inside.children.items) c.args.i c.slot_of-slot.result (Some (g.C.Block.tree c.in-Some.child.value)) → Changed c.self.inside.words c.set_slot.new.self (g.C.Block.height + 1) [] (kids g.C.Block.tree c.self.inside.children.items) (set (kids g.C.Block.tree c.self.inside.children.items) c.slot_of-slot.result (Some (g.C.Block.tree c.exchange.new.self))) c.args.i (g.C.Block.tree c.in-Some.child.value).places (g.C.Block.tree c.exchange.new.self).places
changed g c way =
    let old = rw c.deref_mut-child.ensures.value at c.exchange.ensures in
    child_changed _ _ _ _ _ c.self.invariant _ _ _ way (g.C.Block.tree c.exchange.new.self) old.height old.whole (λ q. c.set_slot.ensures.same q ∙ c.together-below.ensures q) c.set_slot.ensures.others

pub invariant_of-self : goal.invariant_of-self
invariant_of-self g c =
    let at = goal.at.invariant_of-self g c in
    rw (kids_set g.C.Block.tree c.self.inside.children.items c.slot_of-slot.result) (changed g at.After-set_slot (child g at.In-Some)).node

pub returns-then-is_none-clause-swaps : goal.returns-then-is_none-clause-swaps
returns-then-is_none-clause-swaps g c =
    let way = none g (goal.at.returns-then-is_none-clause-swaps g c).Then-is_none in
    let room = rw (← c.self.view_is) at c.requires.room in
    rw (← c.self.view_is) (swaps_empty _ _ _ _ c.self.invariant _ _ way _ room)

pub returns : goal.returns
returns g c =
    let at = goal.at.returns g c in
    let way = child g at.In-Some in
    let old = rw (c.deref_mut-child.ensures.value, rest g at.After-rest_of) at c.exchange.ensures in
    let all = changed g at.After-set_slot way in
    let slots = kids_set g.C.Block.tree c.self.inside.children.items c.slot_of-slot.result in
    record {
      height = search rules;
      whole = rw (← c.self.view_is, slots) all.whole;
      swaps = rw (← c.self.view_is, slots) (swaps_child _ _ _ _ _ c.self.invariant _ _ _ way (g.C.Block.tree c.exchange.new.self) all.node _ _ old.swaps);
      keeps = rw (← c.self.view_is, slots) (all.keeps old.keeps);
    }
