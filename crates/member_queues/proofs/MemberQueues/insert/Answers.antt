use Rattle.std.proofs.Common.{arith}
use Rattle.std.proofs.lemmas.Grind.{common_steps}
use Rattle.member_queues.proofs.MemberQueues.insert.Goals as goal

pub enter-requires-clause-owner : goal.enter-requires-clause-owner
enter-requires-clause-owner c = grind (arith, common_steps)

pub enter-requires-clause-key : goal.enter-requires-clause-key
enter-requires-clause-key c = grind (arith, common_steps)
