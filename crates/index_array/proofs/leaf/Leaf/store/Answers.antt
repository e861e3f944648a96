use Rattle.std.proofs.Common.{refl}
use Rattle.index_array.proofs.Leaves.{leaf_prepared}
use Rattle.index_array.proofs.leaf.Leaf.store.Goals as goal

pub put-requires-clause-prepared : goal.put-requires-clause-prepared
put-requires-clause-prepared c = λ _. rw (← c.self.view_is) (leaf_prepared _ _ _ _ c.self.invariant refl c.args.slot c.requires)
