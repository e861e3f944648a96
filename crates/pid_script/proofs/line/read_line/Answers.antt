use Rattle.std.proofs.Common.{arith}
use Rattle.std.proofs.lemmas.Grind.{common_steps}
use Rattle.pid_script.proofs.line.read_line.Goals as goal

pub returns-in-102 : goal.returns-in-102
returns-in-102 c = grind (arith, common_steps)

pub returns-in-101 : goal.returns-in-101
returns-in-101 c = grind (arith, common_steps)

pub returns-in-119 : goal.returns-in-119
returns-in-119 c = grind (arith, common_steps)
