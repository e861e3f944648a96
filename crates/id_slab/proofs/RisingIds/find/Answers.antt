use Rattle.std.proofs.Common.{sym, ◌∙◌}
use Rattle.id_slab.proofs.Lives as lives
use Rattle.id_slab.proofs.RisingIds.find.Goals as goal

pub returns-in_err-i : goal.returns-in_err-i
returns-in_err-i c =
    let a = lives.at_none c.self.inside.entries.items c.as_slice.result.now c.args.id c.as_slice.ensures.value c.in_err-i.ensures in
    c.from_residual.ensures ∙ rw (← c.self.view_is) (sym a.key_is)

pub returns : goal.returns
returns c =
    let a = lives.at_place c.self.inside.entries.items c.as_slice.result.now c.args.id c.in_ok-i.i c.index.result.now c.index.result.now c.self.invariant.0 c.as_slice.ensures.value c.in_ok-i.ensures c.index.ensures c.index.ensures in
    rw (← c.self.view_is) (sym a.0.key_is)
