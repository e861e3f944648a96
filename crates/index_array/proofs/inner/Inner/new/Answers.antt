use Rattle.std.proofs.Common.{arith, ◌<◌, ◌+◌, ap, refl}
use Rattle.index_array.specs.Tree.{kids}
use Rattle.index_array.proofs.Empty.{empty_inner, empty_new}
use Rattle.index_array.proofs.inner.Inner.new.Goals as goal

pub invariant_of-result : goal.invariant_of-result
invariant_of-result g c =
    let up : 0 < g.C.Block.height + 1 = omega arith in
    empty_inner c.none.result c.none.ensures (g.C.Block.height + 1) _ _ up (omega arith) refl (ap (kids g.C.Block.tree) c.in_ok-empty_slots.ensures)

pub returns : goal.returns
returns g c =
    let up : 0 < g.C.Block.height + 1 = omega arith in
    empty_new c.none.result c.none.ensures (g.C.Block.height + 1) _ _ (empty_inner c.none.result c.none.ensures (g.C.Block.height + 1) _ _ up (omega arith) refl (ap (kids g.C.Block.tree) c.in_ok-empty_slots.ensures))
