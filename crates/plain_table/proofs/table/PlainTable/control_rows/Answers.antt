use Rattle.std.proofs.Common.{arith}
use Rattle.std.proofs.lemmas.Grind.{common_steps}
use Rattle.plain_table.proofs.table.PlainTable.control_rows.Goals as goal

pub loop-control-preserved : goal.loop-control-preserved
loop-control-preserved c = grind (arith, common_steps)
