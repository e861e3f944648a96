use Rattle.std.proofs.Common.{arith}
use Rattle.std.proofs.lemmas.Grind.{common_steps}
use Rattle.member_queues.proofs.Trees as trees
use Rattle.member_queues.proofs.Entering as entering
use Rattle.member_queues.proofs.add.Goals as goal

pub index-requires : goal.index-requires
index-requires c = grind (arith, common_steps)

pub is_elder-requires : goal.is_elder-requires
is_elder-requires c = grind (arith, common_steps)

pub sink-requires : goal.sink-requires
sink-requires c =
    entering.sinks_below c.args.forest.now.roots.items c.args.forest.now.nodes.items c.as_slice.result.now c.index.result.now.above c.args.key c.args.owner
    c.requires.heap c.requires.owner c.requires.mine c.as_slice.ensures.value (c.is_elder.ensures c.if-is_elder.true) c.requires.alone

pub place-requires-clause-mine : goal.place-requires-clause-mine
place-requires-clause-mine c = grind (arith, trees.same_member)

pub set_latest-requires-clause-heap : goal.set_latest-requires-clause-heap
set_latest-requires-clause-heap c = grind arith

pub returns : goal.returns
returns c = grind arith
