use Rattle.std.proofs.Common.{arith}
use Rattle.member_queues.proofs.settle_level.Goals as goal

pub returns-then-not-join_two : goal.returns-then-not-join_two
returns-then-not-join_two c = grind arith

pub loop-preserved : goal.loop-preserved
loop-preserved c = grind arith
