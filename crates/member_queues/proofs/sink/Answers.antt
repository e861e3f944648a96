use Rattle.std.proofs.Common.{arith}
use Rattle.std.proofs.lemmas.Grind.{common_steps}
use Rattle.member_queues.proofs.sink.Goals as goal

pub loop-held-init : goal.loop-held-init
loop-held-init c = grind (arith, common_steps)

pub loop-held-preserved : goal.loop-held-preserved
loop-held-preserved c = grind arith

pub returns : goal.returns
returns c = grind arith
