use Rattle.index_array.proofs.Exchanges.{leaf_through}
use Rattle.index_array.proofs.inner.InnerBlock.leaf.Goals as goal

pub returns-in-Some : goal.returns-in-Some
returns-in-Some g c =
    leaf_through c.args.self.now.places c.args.i (g.C.Block.tree c.in-Some.child.now) c.in-Some.rest c.in-Some.ensures c.leaf.result (λ b. b.now) c.leaf.ensures
