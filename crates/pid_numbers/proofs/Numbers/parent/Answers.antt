use Rattle.pid_numbers.proofs.Words.{◌∙◌, sym, ap, length, Some, None, if◌then◌else◌, nat_lt, slice_index_or}
use Rattle.pid_numbers.proofs.Views as views
use Rattle.pid_numbers.proofs.Numbers.parent.Goals as goal

pub returns : goal.returns
returns c = c.parent.ensures
    ∙ ap (λ p. if nat_lt 1 (length p) then Some (slice_index_or p 1 0) else None) (sym (views.path-of c.self.inside c.self.view_is c.args.space))
