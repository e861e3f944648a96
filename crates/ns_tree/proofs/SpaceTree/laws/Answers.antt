use Rattle.std.proofs.Common.{ℕ, ◌<◌, length, IsSome, subst}
use Rattle.ns_tree.specs.Tree.{TreeOfSpaces, node_in, way}
use Rattle.ns_tree.proofs.SpaceTree.laws.Goals as goal

pub returns-clause-some : goal.returns-clause-some
returns-clause-some c = subst (λ (t : TreeOfSpaces). (s : ℕ) → IsSome (node_in t.nodes s) → 0 < length (way t.nodes s)) c.self.view_is c.self.invariant.some
