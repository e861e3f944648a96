use Rattle.pids_charge.proofs.Words.{None, Some, suc, ℕ, ◌≡◌, option_map_or, ContainsKey, first_full, total_at, tree_of}
use Rattle.pids_charge.proofs.limits.full_above.Given as goal

abbrev pub invariant-loop-at : goal.invariant-loop-at
invariant-loop-at l = record {
  here : (a : ℕ) → l.at ≡ Some a → ContainsKey l._nodes a;
  rest : first_full l._nodes (total_at l.counters) ((tree_of l._nodes).level l.home) l.home ≡ option_map_or (λ a. first_full l._nodes (total_at l.counters) ((tree_of l._nodes).level a) a) l.at None;
}

abbrev pub decreases-loop-at : goal.decreases-loop-at
decreases-loop-at l = option_map_or (λ a. suc ((tree_of l._nodes).level a)) l.at 0
