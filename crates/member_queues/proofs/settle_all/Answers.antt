use Rattle.std.proofs.Common.{arith}
use Rattle.member_queues.proofs.settle_all.Goals as goal

pub loop-level-preserved : goal.loop-level-preserved
loop-level-preserved c = grind arith
