use Rattle.std.proofs.Common.{rules}
use Rattle.plain_table.proofs.table.with_count.Goals as goal

pub returns : goal.returns
returns c = search rules
