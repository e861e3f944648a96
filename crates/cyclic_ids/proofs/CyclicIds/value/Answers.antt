use Rattle.cyclic_ids.proofs.Beside.{entry_in_leaf, entry_in_tree}
use Rattle.cyclic_ids.proofs.CyclicIds.value.Goals as goal

pub returns-then-n-self : goal.returns-then-n-self
returns-then-n-self c = rw (← c.self.view_is, entry_in_leaf c.self.inside.is_ready c.self.inside.block c.self.inside.leaf.places c.self.inside.ids c.args.n c.if-n-self.true) c.value.ensures

pub returns : goal.returns
returns c = rw (← c.self.view_is, entry_in_tree c.self.inside.is_ready c.self.inside.block c.self.inside.leaf.places c.self.inside.ids c.args.n c.if-n-self.false) c.value-2.ensures
