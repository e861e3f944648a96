use Rattle.std.proofs.Common.{rules}
use Rattle.plain_view.proofs.view.View.number_or_zero.Goals as goal

pub returns : goal.returns
returns c = search rules
