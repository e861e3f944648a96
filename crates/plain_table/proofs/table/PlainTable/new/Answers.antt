use Rattle.std.proofs.Common.{rules}
use Rattle.plain_table.proofs.table.PlainTable.new.Goals as goal

pub returns : goal.returns
returns c = search rules
