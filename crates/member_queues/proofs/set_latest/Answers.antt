use Rattle.std.proofs.Common.{refl}
use Rattle.member_queues.proofs.Trees as trees
use Rattle.member_queues.proofs.Marking as marking
use Rattle.member_queues.proofs.set_latest.Goals as goal

pub set_above-requires : goal.set_above-requires
set_above-requires c =
    marking.root_within c.args.forest.now.roots.items c.args.forest.now.nodes.items c.args.owner c.index-root.result.now c.requires.heap
    c.requires.owner (trees.root_is c.args.forest.now.roots.items c.args.owner c.index-root.result.now c.requires.owner c.index-root.ensures)

pub returns : goal.returns
returns c = record {
  heap = marking.IsHeap-topped c.args.forest.now.roots.items c.args.forest.now.nodes.items c.set_above.new.nodes.items c.args.owner c.index-root.result.now c.args.key c.requires.heap
      (trees.root_is c.args.forest.now.roots.items c.args.owner c.index-root.result.now c.requires.owner c.index-root.ensures)
      c.set_above.ensures.here c.set_above.ensures.others c.set_above.ensures.len;
  members = c.set_above.ensures.members;
  len = c.set_above.ensures.len;
  rooms = refl;
}
