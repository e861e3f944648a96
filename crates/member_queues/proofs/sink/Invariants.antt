use Rattle.std.proofs.Common.{◌≡◌, ◌≢◌, ◌-◌, length, map}
use Rattle.member_queues.specs.Heap.{nil, node_at, member_in, IsSinking}
use Rattle.member_queues.proofs.sink.Given as goal

abbrev pub invariant-loop-held : goal.invariant-loop-held
invariant-loop-held l = record {
  sinking : IsSinking l.side l.forest.roots.items l.forest.nodes.items l.at l.held;
  rank : l.held ≢ nil → l.rank ≡ (node_at l.forest.nodes.items l.held).rank;
  members : map member_in l.forest.nodes.items ≡ map member_in l.initial.forest.nodes.items;
  rooms : length l.forest.roots.items ≡ length l.initial.forest.roots.items;
}

abbrev pub decreases-loop-held : goal.decreases-loop-held
decreases-loop-held l = 4294967296 - (node_at l.forest.nodes.items l.at).rank
