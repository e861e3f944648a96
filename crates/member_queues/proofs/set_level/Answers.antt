use Rattle.std.proofs.Common.{refl, arith}
use Rattle.std.proofs.Math.Seq.{map-set_same}
use Rattle.std.proofs.lemmas.List.{length-set}
use Rattle.member_queues.proofs.Trees as trees
use Rattle.member_queues.proofs.Marking as marking
use Rattle.member_queues.proofs.set_level.Goals as goal

pub returns-then-at-ne-NIL : goal.returns-then-at-ne-NIL
returns-then-at-ne-NIL c = record {
  heap = marking.IsHeap-leveled c.args.forest.now.roots.items c.args.forest.now.nodes.items c.args.at c.args.level c.index_mut.result.now c.requires.heap
      (c.requires.at c.if-at-ne-NIL.true) c.index_mut.ensures.value;
  members = grind (arith, map-set_same, trees.node_is);
  len = length-set c.args.forest.now.nodes.items c.args.at _;
  rooms = refl;
}
