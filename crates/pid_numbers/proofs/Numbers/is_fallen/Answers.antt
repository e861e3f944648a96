use Rattle.std.proofs.Common.{◌∙◌, sym}
use Rattle.pid_numbers.proofs.Views as views
use Rattle.pid_numbers.proofs.Numbers.is_fallen.Goals as goal

pub returns : goal.returns
returns c = c.is_fallen.ensures ∙ sym (views.fell_is c.self.inside c.self.view_is c.args.space)
