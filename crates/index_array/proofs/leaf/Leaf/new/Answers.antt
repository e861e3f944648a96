use Rattle.std.proofs.Common.{lit≤, refl}
use Rattle.index_array.specs.declared.bits.Sought.TheVariants.{Present}
use Rattle.index_array.proofs.Empty.{empty_leaf, empty_new}
use Rattle.index_array.proofs.Slots.{slots_empty}
use Rattle.index_array.proofs.leaf.Leaf.new.Goals as goal

pub invariant_of-result : goal.invariant_of-result
invariant_of-result c =
    empty_leaf c.none.result c.none.ensures 0 _ _ refl (slots_empty _ 0 64 (c.none.ensures Present) (lit≤ tt)) refl

pub returns : goal.returns
returns c =
    empty_new c.none.result c.none.ensures 0 _ _ (empty_leaf c.none.result c.none.ensures 0 _ _ refl (slots_empty _ 0 64 (c.none.ensures Present) (lit≤ tt)) refl)
