use Rattle.std.proofs.Common.{arith}
use Rattle.std.proofs.lemmas.Grind.{common_steps, elements}
use Rattle.member_queues.proofs.MemberQueues.move_all.Goals as goal

pub detach-held-requires-clause-from : goal.detach-held-requires-clause-from
detach-held-requires-clause-from c = grind (arith, common_steps)

pub detach-held-requires-clause-to : goal.detach-held-requires-clause-to
detach-held-requires-clause-to c = grind (arith, common_steps)

pub meld-requires-clause-owner : goal.meld-requires-clause-owner
meld-requires-clause-owner c = grind (arith, common_steps)

pub is_long-requires-clause-owner : goal.is_long-requires-clause-owner
is_long-requires-clause-owner c = grind (arith, common_steps)

pub settle_all-requires-clause-owner : goal.settle_all-requires-clause-owner
settle_all-requires-clause-owner c = grind (arith, elements)

pub returns-then-is_long-clause-keys : goal.returns-then-is_long-clause-keys
returns-then-is_long-clause-keys c = grind (arith, common_steps)

pub returns-else-held-clause-keys : goal.returns-else-held-clause-keys
returns-else-held-clause-keys c = grind (arith, elements)
