use Rattle.std.proofs.Common.{length}
use Rattle.member_queues.specs.Heap.{walk}
use Rattle.member_queues.proofs.Telling.{IsTelling}
use Rattle.member_queues.proofs.tell_owner.Given as goal

abbrev pub invariant-loop-at : goal.invariant-loop-at
invariant-loop-at l = IsTelling l.fn.forest.nodes.items l.nodes l.from l.to l.run l.at

abbrev pub decreases-loop-at : goal.decreases-loop-at
decreases-loop-at l = length (walk l.fn.forest.nodes.items l.run l.at (length l.fn.forest.nodes.items))
