use Rattle.std.proofs.Common.{arith}
use Rattle.std.proofs.lemmas.Grind.{common_steps}
use Rattle.pid_script.specs.Reading.{limit_read}
use Rattle.pid_script.proofs.line.read_most.Goals as goal

pub returns-in-max : goal.returns-in-max
unfolding limit_read
returns-in-max c = grind (arith, common_steps)
