use Rattle.std.proofs.Common.{rules}
use Rattle.plain_table.proofs.edit.FallsEditRow.edit.Goals as goal

pub returns-then-is_live : goal.returns-then-is_live
returns-then-is_live c = search rules
