use Rattle.std.proofs.Common.{arith}
use Rattle.std.proofs.lemmas.Grind.{common_steps}
use Rattle.member_queues.proofs.is_elder.Goals as goal

pub returns-then-nodes-a-2 : goal.returns-then-nodes-a-2
returns-then-nodes-a-2 c = grind (arith, common_steps)

pub returns-else-nodes-a-2 : goal.returns-else-nodes-a-2
returns-else-nodes-a-2 c = grind arith
