use Rattle.std.proofs.Common.{◌≡◌, ◌≢◌, ◌≤◌, ◌-◌, ◌==◌, if◌then◌else◌}
use Rattle.member_queues.specs.Heap.{nil, node_at}
use Rattle.member_queues.proofs.run_of.Given as goal

abbrev pub invariant-loop-at : goal.invariant-loop-at
invariant-loop-at l = record {
  first : l.at ≢ nil → l.first ≢ nil;
  same : l.at ≢ nil → (node_at l.forest.nodes.items l.at).owner ≡ (node_at l.forest.nodes.items l.first).owner;
  rank : l.at ≢ nil → (node_at l.forest.nodes.items l.first).rank ≤ (node_at l.forest.nodes.items l.at).rank;
}

abbrev pub decreases-loop-at : goal.decreases-loop-at
decreases-loop-at l = if l.at == 4294967295 then 0 else 4294967296 - (node_at l.forest.nodes.items l.at).rank
