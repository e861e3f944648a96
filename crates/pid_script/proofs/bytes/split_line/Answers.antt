use Rattle.std.proofs.Common.{arith}
use Rattle.std.proofs.lemmas.Grind.{common_steps}
use Rattle.pid_script.proofs.bytes.split_line.Goals as goal

pub returns-in-10 : goal.returns-in-10
returns-in-10 c = grind (arith, common_steps)
