use Rattle.pid_numbers.proofs.Views as views
use Rattle.pid_numbers.proofs.Numbers.next_thread.Goals as goal

pub returns : goal.returns
returns c = rw (← c.self.view_is) (views.next_thread-is c.self.inside.pid_max c.self.inside.tree c.self.inside.ids.items c.self.inside.idents c.self.invariant.whole.numbering c.args.space c.args.from c.next_unmarked_at.result c.next_unmarked_at.ensures)
