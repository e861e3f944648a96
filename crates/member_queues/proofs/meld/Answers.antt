use Rattle.std.proofs.Common.{◌≡◌, Bool, true, false, arith}
use Rattle.member_queues.specs.Heap.{root_at}
use Rattle.member_queues.proofs.Trees as trees
use Rattle.member_queues.proofs.Melding as melding
use Rattle.member_queues.proofs.meld.Goals as goal

root_is : (c : goal.After-as_slice) → root_at c.args.forest.now.roots.items c.args.owner ≡ c.index-root.result.now
root_is c = trees.root_is c.args.forest.now.roots.items c.args.owner c.index-root.result.now c.requires.owner c.index-root.ensures

pub is_before-requires-clause-a : goal.is_before-requires-clause-a
is_before-requires-clause-a c =
    rw c.as_slice.ensures.value (melding.root_within c.args.forest.now.roots.items c.args.forest.now.nodes.items c.args.owner c.args.held c.index-root.result.now
    c.requires.heap c.requires.owner c.requires.top (root_is c))

pub is_before-requires-clause-b : goal.is_before-requires-clause-b
is_before-requires-clause-b c =
    rw c.as_slice.ensures.value (melding.held_within c.args.forest.now.roots.items c.args.forest.now.nodes.items c.args.owner c.args.held c.index-root.result.now
    c.requires.heap c.requires.owner c.requires.top (root_is c))

pub sink-requires : goal.sink-requires
sink-requires c =
    let lower = rw c.as_slice.ensures.value at (c.is_before.ensures.0 c.if-is_before.true) in
    melding.sinks_beside_root c.args.forest.now.roots.items c.args.forest.now.nodes.items c.args.owner c.args.held c.index-root.result.now
    c.requires.heap c.requires.owner c.requires.top (trees.root_is c.args.forest.now.roots.items c.args.owner c.index-root.result.now c.requires.owner c.index-root.ensures)
    lower.0 lower.1

pub sink-requires-then-held-ne-NIL : goal.sink-requires-then-held-ne-NIL
sink-requires-then-held-ne-NIL c =
    melding.sinks_as_root c.args.forest.now.roots.items c.args.forest.now.nodes.items c.args.owner c.args.held c.index-root.result.now
    c.requires.heap c.requires.owner c.requires.top (trees.root_is c.args.forest.now.roots.items c.args.owner c.index-root.result.now c.requires.owner c.index-root.ensures)
    c.if-held-ne-NIL.true (λ facts. not_both c.if-is_before.false (c.is_before.ensures.1 (rw c.as_slice.ensures.value facts)))
  where
    not_both : {b : Bool} → b ≡ false → b ≡ true → ⊥
    not_both f t = cc

pub returns-then-held-ne-NIL : goal.returns-then-held-ne-NIL
returns-then-held-ne-NIL c = grind arith

pub returns-else-held-ne-NIL : goal.returns-else-held-ne-NIL
returns-else-held-ne-NIL c = grind arith
