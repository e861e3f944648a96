use Rattle.std.proofs.Common.{arith, ap, ◌∙◌, ◌≡◌, ◌+◌, ◌/◌, ◌%◌, ◌^◌, Some}
use Rattle.index_array.specs.Tree.{kids}
use Rattle.index_array.proofs.Ways.{Way, way_child, way_empty, way_rest}
use Rattle.index_array.proofs.Kids.{kid_way}
use Rattle.index_array.proofs.Exchanges.{slot_in_child, leaf_in_child}
use Rattle.index_array.proofs.inner.Inner.below.Goals as goal

pub returns-in-None : goal.returns-in-None
returns-in-None g c =
    rw (← c.self.view_is) (way_empty _ _ _ _ c.self.invariant _ _ (kid_way g.C.Block.tree _ _ c.self.inside.children.items c.self.invariant _ c.self.view_is (omega arith) _ _ c.requires (c.slot_of.ensures ∙ ap (λ n. c.args.i / 64 ^ (n + 1)) c.height-height.ensures) _ _ c.index.ensures c.in-None.is))

pub returns-in-Some : goal.returns-in-Some
returns-in-Some g c =
    let way : Way (g.C.Block.height + 1) (kids g.C.Block.tree c.self.inside.children.items) c.args.i c.slot_of.result (Some (g.C.Block.tree c.in-Some.child.value)) = kid_way g.C.Block.tree _ _ c.self.inside.children.items c.self.invariant _ c.self.view_is (omega arith) _ _ c.requires (c.slot_of.ensures ∙ ap (λ n. c.args.i / 64 ^ (n + 1)) c.height-height.ensures) _ _ c.index.ensures c.in-Some.is in
    let rest : c.rest_of.result ≡ c.args.i % 64 ^ (g.C.Block.height + 1) = c.rest_of.ensures ∙ ap (λ n. c.args.i % 64 ^ (n + 1)) c.height-height.ensures in
    record {
      place = rw (← c.self.view_is, rest, c.deref.ensures) (way_child _ _ _ _ c.self.invariant _ _ _ way);
      covered = way_rest _ _ _ _ c.self.invariant _ _ _ way _ (ap g.C.Block.tree c.deref.ensures) _ rest;
      slot = ap (λ r. r % 64) rest ∙ slot_in_child _ _ _ _ c.self.invariant _ _ _ way;
      leaf = λ j e. rw (← c.self.view_is, rest, c.deref.ensures) (leaf_in_child _ _ _ _ c.self.invariant _ _ _ way j e);
    }
