use Rattle.pids_charge.proofs.Words.{◌≡◌, ContainsKey, standing_key, tree_of}
use Rattle.pids_charge.proofs.standing.standing_from.Given as goal

abbrev pub invariant-loop-parent : goal.invariant-loop-parent
invariant-loop-parent l = record {
  there : ContainsKey l.nodes l.at;
  rest : standing_key (tree_of l.nodes) l.home ≡ standing_key (tree_of l.nodes) l.at;
}

abbrev pub decreases-loop-parent : goal.decreases-loop-parent
decreases-loop-parent l = (tree_of l.nodes).level l.at
