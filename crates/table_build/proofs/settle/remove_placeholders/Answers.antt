use Rattle.std.proofs.Common.{arith}
use Rattle.std.proofs.lemmas.Grind.{common_steps}
use Rattle.table_build.proofs.settle.remove_placeholders.Goals as goal

pub loop-place-preserved : goal.loop-place-preserved
loop-place-preserved c = grind arith

pub returns-clause-gone : goal.returns-clause-gone
returns-clause-gone c = grind (arith, common_steps)

pub loop-place-init : goal.loop-place-init
loop-place-init c = grind arith
