use Rattle.std.proofs.Common.{refl}
use Rattle.pid_types.specs.Outcome.{sweep}
use Rattle.plain_table.proofs.table.PlainTable.sweep.Goals as goal

pub returns : goal.returns
unfolding sweep
returns c = rw (c.swap.ensures.x_after, c.keep_living.ensures.living, c.deref-6.ensures.value, c.new-view.ensures, ← c.self.view_is, c.deref.ensures.value, c.deref-2.ensures.value, c.deref-3.ensures.value, c.deref-4.ensures.value, c.deref-5.ensures.value) refl
