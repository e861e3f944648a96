use Rattle.std.proofs.Common.{refl}
use Rattle.plain_view.proofs.Taken.{empty-taken}
use Rattle.plain_view.proofs.view.View.is_unused.Goals as goal

pub returns-then-no_thread_has : goal.returns-then-no_thread_has
returns-then-no_thread_has c = rw (empty-taken, ← c.no_thread_has.ensures, c.if-no_thread_has.true) c.all_rows_use_none.ensures

pub returns-else-no_thread_has : goal.returns-else-no_thread_has
returns-else-no_thread_has c = rw (empty-taken, ← c.no_thread_has.ensures, c.if-no_thread_has.false) refl
