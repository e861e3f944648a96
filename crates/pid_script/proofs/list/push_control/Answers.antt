use Rattle.std.proofs.Common.{arith}
use Rattle.std.proofs.lemmas.Grind.{common_steps}
use Rattle.pid_script.specs.Lists.{control_line}
use Rattle.pid_script.proofs.list.push_control.Goals as goal

pub returns : goal.returns
unfolding control_line
returns c = grind (arith, common_steps)
