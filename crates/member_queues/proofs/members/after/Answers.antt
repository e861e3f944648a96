use Rattle.std.proofs.Common.{arith}
use Rattle.std.proofs.lemmas.Grind.{elements}
use Rattle.member_queues.proofs.members.after.Goals as goal

pub returns-then-next-clause-run : goal.returns-then-next-clause-run
returns-then-next-clause-run c = grind (arith, elements)

pub returns-then-next-clause-key : goal.returns-then-next-clause-key
returns-then-next-clause-key c = grind (arith, elements)

pub returns-else-next-clause-run : goal.returns-else-next-clause-run
returns-else-next-clause-run c = grind (arith, elements)

pub returns-else-next-clause-key : goal.returns-else-next-clause-key
returns-else-next-clause-key c = grind (arith, elements)
