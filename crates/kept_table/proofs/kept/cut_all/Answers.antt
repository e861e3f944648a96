use Rattle.std.proofs.Common.{rules}
use Rattle.kept_table.proofs.kept.cut_all.Goals as goal

pub returns : goal.returns
returns c = search rules
