use Rattle.std.proofs.Common.{arith}
use Rattle.std.proofs.lemmas.Grind.{common_steps}
use Rattle.pid_script.specs.Lists.{name_text}
use Rattle.pid_script.proofs.list.push_name.Goals as goal

pub returns : goal.returns
unfolding name_text
returns c = grind (arith, common_steps)
