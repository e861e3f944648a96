use Rattle.std.proofs.Common.{◌≡◌, ℕ, ◌<◌, ◌≤◌, length, option_map}
use Rattle.ns_tree.specs.Tree.{node_in}
use Rattle.pid_numbers.specs.Restore.{is_flagged, felled_if}
use Rattle.pid_numbers.proofs.restore.mark_all.Given as goal

abbrev pub invariant-loop-place : goal.invariant-loop-place
invariant-loop-place l = record {
  done : (s : ℕ) → s < l.place → node_in l.tree.nodes s ≡ option_map (felled_if (is_flagged l.flags s)) (node_in l.initial.tree.nodes s);
  left : (s : ℕ) → l.place ≤ s → node_in l.tree.nodes s ≡ node_in l.initial.tree.nodes s;
  count : length l.tree.nodes ≡ length l.initial.tree.nodes;
  order : l.tree.order ≡ l.initial.tree.order;
}
