use Rattle.std.proofs.Common.{rules, ap, ◌<◌, refl}
use Rattle.index_array.proofs.Blocks.{length_places}
use Rattle.index_array.proofs.Leaves.{leaf_index, leaf_prepared}
use Rattle.index_array.proofs.Exchanges.{swaps_leaves, keeps_leaves}
use Rattle.index_array.proofs.leaf.LeafBlock.exchange.Goals as goal

pub returns : goal.returns
returns c =
    let b : c.args._i < 64 = leaf_index (ap (λ v. v.height) c.self.view_is) c.requires.covered in
    let own = length_places _ _ _ _ c.self.invariant in
    let other = length_places _ _ _ _ c.leaf.invariant in
    record {
      height = search rules;
      whole = search rules;
      swaps = rw (c.swap.ensures.x_after, c.swap.ensures.y_after, ← c.self.view_is, ← c.leaf.view_is) (swaps_leaves _ _ c.args._i b own other (λ j below. leaf_prepared _ _ _ _ c.leaf.invariant refl j below));
      keeps = rw (c.swap.ensures.x_after, ← c.self.view_is, ← c.leaf.view_is) (keeps_leaves _ _ c.args._i b own other (λ j below. leaf_prepared _ _ _ _ c.leaf.invariant refl j below));
    }
