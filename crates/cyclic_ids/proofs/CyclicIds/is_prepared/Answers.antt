use Rattle.cyclic_ids.proofs.Beside.{in_leaf, in_tree}
use Rattle.cyclic_ids.proofs.CyclicIds.is_prepared.Goals as goal
use Rattle.std.proofs.Common.{refl}

pub returns-then-n-self : goal.returns-then-n-self
returns-then-n-self c = rw (← c.self.view_is, in_leaf c.self.inside.is_ready c.self.inside.block c.self.inside.leaf.places c.self.inside.ids c.args.n c.if-n-self.true) refl

pub returns : goal.returns
returns c = rw (← c.self.view_is, in_tree c.self.inside.is_ready c.self.inside.block c.self.inside.leaf.places c.self.inside.ids c.args.n c.if-n-self.false) c.is_prepared.ensures
