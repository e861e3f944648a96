use Rattle.std.proofs.Common.{refl}
use Rattle.plain_view.proofs.Taken.{contains-taken}
use Rattle.plain_view.proofs.view.View.is_taken.Goals as goal

pub returns-then-some_thread_has : goal.returns-then-some_thread_has
returns-then-some_thread_has c = rw (contains-taken, ← c.some_thread_has.ensures, c.if-some_thread_has.true) refl

pub returns-else-some_thread_has : goal.returns-else-some_thread_has
returns-else-some_thread_has c = rw (contains-taken, ← c.some_thread_has.ensures, c.if-some_thread_has.false) c.some_row_uses.ensures
