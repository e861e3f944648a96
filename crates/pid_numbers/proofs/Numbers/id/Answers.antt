use Rattle.std.proofs.Common.{◌∙◌, sym}
use Rattle.pid_numbers.proofs.Views as views
use Rattle.pid_numbers.proofs.Numbers.id.Goals as goal

pub returns : goal.returns
returns c = c.id.ensures ∙ sym (views.id_is c.self.inside c.self.view_is c.args.space)
