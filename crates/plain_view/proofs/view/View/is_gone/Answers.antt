use Rattle.std.proofs.Common.{rules}
use Rattle.plain_view.proofs.view.View.is_gone.Goals as goal

pub returns : goal.returns
returns c = search rules
