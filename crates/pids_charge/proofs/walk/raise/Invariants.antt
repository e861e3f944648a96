use Rattle.pids_charge.proofs.Words.{Some, suc, ℕ, ◌+◌, ◌≡◌, ◌≤◌, option_map_or, ContainsKey, AreLinked, total_at, left, tree_of, weight}
use Rattle.pids_charge.proofs.walk.raise.Given as goal

abbrev pub invariant-loop-at : goal.invariant-loop-at
invariant-loop-at l = record {
  here : (a : ℕ) → l.at ≡ Some a → ContainsKey l._nodes a;
  totals : (k : ℕ) → total_at l.counters.items k + left (tree_of l._nodes) l.at k ≡ total_at l.initial.counters.items k + weight (tree_of l._nodes) l.home k;
  part : (k : ℕ) → left (tree_of l._nodes) l.at k ≤ weight (tree_of l._nodes) l.home k;
  linked : AreLinked l._nodes l.counters.items;
}

abbrev pub decreases-loop-at : goal.decreases-loop-at
decreases-loop-at l = option_map_or (λ a. suc ((tree_of l._nodes).level a)) l.at 0
