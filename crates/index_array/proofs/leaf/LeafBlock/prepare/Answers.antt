use Rattle.std.proofs.Common.{ap, ◌<◌, refl}
use Rattle.index_array.proofs.Leaves.{leaf_index, leaf_prepared}
use Rattle.index_array.proofs.leaf.LeafBlock.prepare.Goals as goal

pub returns-clause-ok : goal.returns-clause-ok
returns-clause-ok c =
    let b : c.args._i < 64 = leaf_index (ap (λ v. v.height) c.self.view_is) c.requires in
    rw (← c.self.view_is) (leaf_prepared _ _ _ _ c.self.invariant refl c.args._i b)
