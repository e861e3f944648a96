-- A child goes only where its bit says that no entry is below it, so no entry changes
use Rattle.std.proofs.Common.{rules, arith, ap, sym, ◌∙◌, ◌≡◌, ◌+◌, ◌/◌, ◌%◌, ◌^◌, get_or, None, Some, refl}
use Rattle.index_array.specs.Tree.{kids}
use Rattle.index_array.proofs.Ways.{Way, way_rest}
use Rattle.index_array.proofs.Kids.{kid_way, kids_set}
use Rattle.index_array.proofs.Marks.{way_present}
use Rattle.index_array.proofs.Descent.{child_kept_entries, child_given_back}
use Rattle.index_array.proofs.inner.InnerBlock.give_back.Goals as goal
use Rattle.index_array.proofs.inner.InnerBlock.give_back.Goals.{In-Some, In-None, Then-not-has_bit, After-rest_of}

-- what stands at the slot of the index
child : (g : _) (c : In-Some g) → Way (g.C.Block.height + 1) (kids g.C.Block.tree c.self.inside.children.items) c.args.i c.slot_of-slot.result (Some (g.C.Block.tree c.in-Some.child.value))
child g c =
    kid_way g.C.Block.tree _ _ c.self.inside.children.items c.self.invariant _ c.self.view_is (omega arith) _ _ c.requires (c.slot_of-slot.ensures ∙ ap (λ n. c.args.i / 64 ^ (n + 1)) c.height-height.ensures) _ _ c.index_mut-2.ensures.value c.in-Some.is

none : (g : _) (c : In-None g) → Way (g.C.Block.height + 1) (kids g.C.Block.tree c.self.inside.children.items) c.args.i c.slot_of-slot.result None
none g c =
    kid_way g.C.Block.tree _ _ c.self.inside.children.items c.self.invariant _ c.self.view_is (omega arith) _ _ c.requires (c.slot_of-slot.ensures ∙ ap (λ n. c.args.i / 64 ^ (n + 1)) c.height-height.ensures) _ _ c.index_mut-2.ensures.value c.in-None.is

-- where no entry is below the slot, whatever stands there
any : (g : _) (c : Then-not-has_bit g) → Way (g.C.Block.height + 1) (kids g.C.Block.tree c.self.inside.children.items) c.args.i c.slot_of-slot.result (get_or (kids g.C.Block.tree c.self.inside.children.items) (c.args.i / 64 ^ (g.C.Block.height + 1)) None)
any g c =
    record {
      up = omega arith;
      covered = rw (ap (λ v. v.height) c.self.view_is) c.requires;
      at = c.slot_of-slot.ensures ∙ ap (λ n. c.args.i / 64 ^ (n + 1)) c.height-height.ensures;
      slot = refl;
    }

-- the index below the child
rest : (g : _) (c : After-rest_of g) → c.rest_of.result ≡ c.args.i % 64 ^ (g.C.Block.height + 1)
rest g c = c.rest_of.ensures ∙ ap (λ n. c.args.i % 64 ^ (n + 1)) c.height-height.ensures

pub unreachable-requires : goal.unreachable-requires
unreachable-requires g c = way_present _ _ _ _ c.self.invariant _ _ (none g (goal.at.unreachable-requires g c).In-None) (sym c.has_bit.ensures ∙ c.if-not-has_bit.false)

pub give_back-requires : goal.give_back-requires
give_back-requires g c =
    let at = goal.at.give_back-requires g c in
    way_rest _ _ _ _ c.self.invariant _ _ _ (child g at.In-Some) _ (ap g.C.Block.tree c.deref_mut.ensures.value) _ (rest g at.After-rest_of)

pub invariant_of-self : goal.invariant_of-self
invariant_of-self g c =
    let way = any g (goal.at.invariant_of-self g c).Then-not-has_bit in
    rw (kids_set g.C.Block.tree c.self.inside.children.items c.slot_of-slot.result) (child_given_back _ _ _ _ c.self.invariant _ _ _ way (sym c.has_bit.ensures ∙ c.if-not-has_bit.true)).1.node

pub returns-then-not-has_bit : goal.returns-then-not-has_bit
returns-then-not-has_bit g c =
    let way = any g (goal.at.returns-then-not-has_bit g c).Then-not-has_bit in
    let all = child_given_back _ _ _ _ c.self.invariant _ _ _ way (sym c.has_bit.ensures ∙ c.if-not-has_bit.true) in
    let slots = kids_set g.C.Block.tree c.self.inside.children.items c.slot_of-slot.result in
    record {
      height = search rules;
      whole = rw (← c.self.view_is, slots) all.1.whole;
      entries = rw (← c.self.view_is, slots) (all.1.entries all.0);
    }

pub invariant_of-self-2 : goal.invariant_of-self-2
invariant_of-self-2 g c =
    let way = child g (goal.at.invariant_of-self-2 g c).In-Some in
    let old = rw c.deref_mut.ensures.value at c.give_back.ensures in
    rw (kids_set g.C.Block.tree c.self.inside.children.items c.slot_of-slot.result) (child_kept_entries _ _ _ _ c.self.invariant _ _ _ way (g.C.Block.tree c.give_back.new.self) old.height old.whole old.entries).node

pub returns : goal.returns
returns g c =
    let way = child g (goal.at.returns g c).In-Some in
    let old = rw c.deref_mut.ensures.value at c.give_back.ensures in
    let all = child_kept_entries _ _ _ _ c.self.invariant _ _ _ way (g.C.Block.tree c.give_back.new.self) old.height old.whole old.entries in
    let slots = kids_set g.C.Block.tree c.self.inside.children.items c.slot_of-slot.result in
    record {
      height = search rules;
      whole = rw (← c.self.view_is, slots) all.whole;
      entries = rw (← c.self.view_is, slots) (all.entries old.entries);
    }
