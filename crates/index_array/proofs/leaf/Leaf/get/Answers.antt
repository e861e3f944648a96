use Rattle.std.proofs.Common.{rules, sym, ◌∙◌, refl}
use Rattle.index_array.proofs.Leaves.{leaf_value}
use Rattle.index_array.proofs.Slots.{slot_some, slot_none}
use Rattle.index_array.proofs.leaf.Leaf.get.Goals as goal

pub returns-then-has_bit : goal.returns-then-has_bit
returns-then-has_bit c =
    rw (← c.self.view_is, leaf_value _ _ _ _ c.self.invariant refl c.args.slot c.requires) (sym (slot_some _ c.self.inside.values c.args.slot (search rules) (sym c.has_bit.ensures ∙ c.if-has_bit.true)))

pub returns-else-has_bit : goal.returns-else-has_bit
returns-else-has_bit c =
    rw (← c.self.view_is, leaf_value _ _ _ _ c.self.invariant refl c.args.slot c.requires) (sym (slot_none _ c.self.inside.values c.args.slot (search rules) (sym c.has_bit.ensures ∙ c.if-has_bit.false)))
