use Rattle.std.proofs.Common.{arith}
use Rattle.std.proofs.lemmas.Grind.{common_steps}
use Rattle.pid_script.specs.Reading.{which_read}
use Rattle.pid_script.proofs.line.read_which.Goals as goal

pub returns-in-any : goal.returns-in-any
unfolding which_read
returns-in-any c = grind (arith, common_steps)

pub returns-in-own : goal.returns-in-own
unfolding which_read
returns-in-own c = grind (arith, common_steps)
