use Rattle.std.proofs.Common.{sym, ◌∙◌, refl}
use Rattle.index_array.specs.declared.bits.Sought.TheVariants.{Mark}
use Rattle.index_array.proofs.Blocks.{leaf_bit}
use Rattle.index_array.proofs.leaf.Leaf.is_marked.Goals as goal

pub returns : goal.returns
returns c =
    rw (← c.self.view_is) (c.has_bit.ensures ∙ sym (leaf_bit _ _ _ _ c.self.invariant refl (Mark c.args.mark) c.args.slot c.requires.slot))
