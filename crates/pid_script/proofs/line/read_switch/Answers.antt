use Rattle.std.proofs.Common.{arith}
use Rattle.std.proofs.lemmas.Grind.{common_steps}
use Rattle.pid_script.specs.Reading.{switch_read}
use Rattle.pid_script.proofs.line.read_switch.Goals as goal

pub returns-in-off : goal.returns-in-off
unfolding switch_read
returns-in-off c = grind (arith, common_steps)

pub returns-in-on : goal.returns-in-on
unfolding switch_read
returns-in-on c = grind (arith, common_steps)
