use Rattle.std.proofs.Common.{rules}
use Rattle.translate.proofs.shown.write_row.Goals as goal

pub returns : goal.returns
returns c = search rules
