use Rattle.std.proofs.Common.{◌≡◌, ◌+◌, ◌-◌, ◌++◌, ℕ, length}
use Rattle.member_lists.specs.Owners.{AreMembers}
use Rattle.pid_types.specs.Bounds.{deepest_space}
use Rattle.ns_tree.specs.Tree.{node_in, way}
use Rattle.ns_tree.proofs.Fallen.{fallen_so_far}
use Rattle.ns_tree.proofs.fall.+fall_within.Given as goal

-- the levels below the namespace
abbrev pub decreases-fall_within : goal.decreases-fall_within
decreases-fall_within l = deepest_space + 1 - length (way l.places.now.nodes l.outer)

abbrev pub invariant-loop-inner : goal.invariant-loop-inner
invariant-loop-inner l = record {
  count : length l.places.nodes ≡ length l.fn.places.nodes;
  walk : AreMembers l.children l.outer (l.yielded ++ l.inner-iterator);
  so_far : (s : ℕ) → node_in l.places.nodes s ≡ fallen_so_far l.outer l.yielded s (node_in l.fn.places.nodes s);
}
