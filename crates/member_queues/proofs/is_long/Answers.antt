use Rattle.std.proofs.Common.{arith}
use Rattle.std.proofs.lemmas.Grind.{common_steps, elements}
use Rattle.member_queues.proofs.is_long.Goals as goal

pub loop-init : goal.loop-init
loop-init c = grind (arith, elements)

pub index-requires : goal.index-requires
index-requires c = grind (arith, common_steps)

pub loop-preserved : goal.loop-preserved
loop-preserved c = grind (arith, common_steps)
