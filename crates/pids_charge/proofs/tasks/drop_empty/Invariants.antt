use Rattle.pids_charge.proofs.Words.{Some, suc, ℕ, ◌≡◌, option_map_or, ContainsKey, AreLinked, DropsEmpty, AreTotals, total_at, IsNodeTree, all_in, tree_of}
use Rattle.pids_charge.proofs.tasks.drop_empty.Given as goal

abbrev pub invariant-loop-at : goal.invariant-loop-at
invariant-loop-at l = record {
  here : (a : ℕ) → l.at ≡ Some a → ContainsKey l.nodes a;
  all : all_in l.nodes ≡ all_in l.initial.nodes;
  drops : DropsEmpty l.initial.nodes l.nodes;
  tree : IsNodeTree (tree_of l.nodes);
  counted : AreTotals l.nodes (total_at l.counters.items) l.at;
  linked : AreLinked l.nodes l.counters.items;
}

abbrev pub decreases-loop-at : goal.decreases-loop-at
decreases-loop-at l = option_map_or (λ a. suc ((tree_of l.nodes).level a)) l.at 0
