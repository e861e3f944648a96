use Rattle.pid_numbers.proofs.Words.{◌≡◌, ℕ, ◌<◌, length, None, IsSome, is_some, if◌then◌else◌, filter, IsPathTree, AreListed, node_in, way, id_in, dead_on}
use Rattle.pid_numbers.proofs.Words.{AreAround}
use Rattle.pid_numbers.proofs.spaces.sweep.Given as goal

abbrev pub invariant-loop-tree : goal.invariant-loop-tree
invariant-loop-tree l = record {
  around : AreAround l.tree.nodes l.ids.items (way l.tree.nodes l.key);
  left : (s : ℕ) → (if dead_on l.tree.nodes l.ids.items s then None else node_in l.tree.nodes s) ≡ if dead_on l.initial.tree.nodes l.ids.items s then None else node_in l.initial.tree.nodes s;
  order : l.tree.order ≡ filter (λ p. is_some (node_in l.tree.nodes p.1)) l.initial.tree.order;
  count : length l.tree.nodes ≡ length l.initial.tree.nodes;
  tree : IsPathTree (way l.tree.nodes);
  some : (s : ℕ) → IsSome (node_in l.tree.nodes s) → 0 < length (way l.tree.nodes s);
  listed : AreListed (id_in l.tree.nodes) l.tree.order;
}

abbrev pub decreases-loop-tree : goal.decreases-loop-tree
decreases-loop-tree l = length (way l.tree.nodes l.key)
