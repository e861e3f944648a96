use Rattle.pid_numbers.proofs.Views as views
use Rattle.pid_numbers.proofs.Numbers.find.Goals as goal

pub returns : goal.returns
returns c = rw (← c.self.view_is) (views.looked_up c.self.inside.pid_max c.self.inside.tree c.self.inside.ids.items c.self.inside.idents c.self.invariant.whole.numbering c.args.space c.args.n c.look.result c.look.ensures)
