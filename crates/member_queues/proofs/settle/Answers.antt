use Rattle.std.proofs.Common.{arith}
use Rattle.member_queues.proofs.settle.Goals as goal

pub returns-then-not-join_two : goal.returns-then-not-join_two
returns-then-not-join_two c = grind arith

pub loop-level-preserved : goal.loop-level-preserved
loop-level-preserved c = grind arith
