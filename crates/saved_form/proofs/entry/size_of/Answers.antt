use Rattle.std.proofs.Common.{◌+◌, ◌*◌, ap, sym, ◌∙◌}
use Rattle.saved_form.proofs.Laid.{entry_size_is}
use Rattle.saved_form.proofs.entry.size_of.Goals as goal

pub returns : goal.returns
returns c = ap (λ n. 48 * (1 + n)) c.further.ensures.blocks ∙ sym (entry_size_is c.args.entry.now)
