use Rattle.std.proofs.Common.{ap}
use Rattle.std.proofs.Math.Seq.{map-set_same}
use Rattle.member_queues.specs.Heap.{blank, member_in}
use Rattle.member_queues.proofs.Trees as trees
use Rattle.member_queues.proofs.set_above.Goals as goal

pub returns-then-at-ne-NIL-clause-members : goal.returns-then-at-ne-NIL-clause-members
returns-then-at-ne-NIL-clause-members c =
    map-set_same member_in c.args.nodes.now.items c.args.at _ blank (ap member_in (trees.node_is c.args.nodes.now.items c.args.at c.index_mut.result.now (c.requires c.if-at-ne-NIL.true) c.index_mut.ensures.value))
