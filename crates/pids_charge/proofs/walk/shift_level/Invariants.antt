use Rattle.pids_charge.proofs.Words.{ℕ, ◌+◌, ◌≡◌, ◌≤◌, ContainsKey, AreLinked, total_at, tree_of, weight}
use Rattle.pids_charge.proofs.walk.shift_level.Given as goal

abbrev pub invariant-loop-less : goal.invariant-loop-less
invariant-loop-less l = record {
  less_there : ContainsKey l.nodes l.less;
  more_there : ContainsKey l.nodes l.more;
  same : (tree_of l.nodes).level l.less ≡ (tree_of l.nodes).level l.more;
  totals : (k : ℕ) → total_at l.counters.items k + weight (tree_of l.nodes) l.from k + weight (tree_of l.nodes) l.more k
      ≡ total_at l.initial.counters.items k + weight (tree_of l.nodes) l.to k + weight (tree_of l.nodes) l.less k;
  less_part : (k : ℕ) → weight (tree_of l.nodes) l.less k ≤ weight (tree_of l.nodes) l.from k;
  more_part : (k : ℕ) → weight (tree_of l.nodes) l.more k ≤ weight (tree_of l.nodes) l.to k;
  linked : AreLinked l.nodes l.counters.items;
}

abbrev pub decreases-loop-less : goal.decreases-loop-less
decreases-loop-less l = (tree_of l.nodes).level l.less
