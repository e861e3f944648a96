use Rattle.std.proofs.Common.{arith}
use Rattle.std.proofs.lemmas.Grind.{common_steps}
use Rattle.plain_table.proofs.exit.push_fallen.Goals as goal

pub loop-space-preserved : goal.loop-space-preserved
loop-space-preserved c = grind (arith, common_steps)
