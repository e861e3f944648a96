use Rattle.std.proofs.Common.{◌≢◌}
use Rattle.member_queues.specs.Heap.{nil, node_at}
use Rattle.member_queues.proofs.is_long.Given as goal

abbrev pub invariant-loop : goal.invariant-loop
invariant-loop l = l.at ≢ nil → (node_at l.forest.nodes.items l.at).owner ≢ nil
