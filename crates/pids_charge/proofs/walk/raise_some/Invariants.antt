use Rattle.pids_charge.proofs.Words.{ℕ, ◌+◌, ◌≡◌, ◌≤◌, ContainsKey, AreLinked, total_at, tree_of, weight}
use Rattle.pids_charge.proofs.walk.raise_some.Given as goal

abbrev pub invariant-loop : goal.invariant-loop
invariant-loop l = record {
  there : ContainsKey l.nodes l.at;
  level : (tree_of l.nodes).level l.at + l.counter ≡ (tree_of l.nodes).level l.home;
  above : (k : ℕ) → weight (tree_of l.nodes) l.at k ≤ weight (tree_of l.nodes) l.home k;
  totals : (k : ℕ) → total_at l.counters.items k + weight (tree_of l.nodes) l.at k ≡ total_at l.initial.counters.items k + weight (tree_of l.nodes) l.home k;
  linked : AreLinked l.nodes l.counters.items;
}
