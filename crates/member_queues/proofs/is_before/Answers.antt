use Rattle.std.proofs.Common.{arith}
use Rattle.std.proofs.lemmas.Grind.{common_steps}
use Rattle.member_queues.proofs.is_before.Goals as goal

pub returns-else-b-eq-NIL : goal.returns-else-b-eq-NIL
returns-else-b-eq-NIL c = grind (arith, common_steps)
