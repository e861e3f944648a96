use Rattle.std.proofs.Common.{arith}
use Rattle.member_queues.proofs.Trees as trees
use Rattle.member_queues.proofs.MemberQueues.new.Goals as goal

pub invariant_of-result : goal.invariant_of-result
invariant_of-result c = grind (arith, trees.runs-none)
