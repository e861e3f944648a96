use Rattle.pid_numbers.proofs.Words.{◌∙◌, sym, ap, contains}
use Rattle.pid_numbers.proofs.Views as views
use Rattle.pid_numbers.proofs.Numbers.is_within.Goals as goal

pub returns : goal.returns
returns c = c.is_within.ensures ∙ ap (λ p. contains p c.args.outer) (sym (views.path-of c.self.inside c.self.view_is c.args.space))
