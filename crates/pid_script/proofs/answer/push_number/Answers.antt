use Rattle.std.proofs.Common.{arith}
use Rattle.std.proofs.lemmas.Grind.{common_steps}
use Rattle.pid_script.proofs.answer.push_number.Goals as goal

pub returns-then-number-lt100000-clause-len : goal.returns-then-number-lt100000-clause-len
returns-then-number-lt100000-clause-len c = grind (arith, common_steps)

pub returns-else-number-lt100000-clause-len : goal.returns-else-number-lt100000-clause-len
returns-else-number-lt100000-clause-len c = grind (arith, common_steps)
