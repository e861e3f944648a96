use Rattle.std.proofs.Common.{arith}
use Rattle.std.proofs.lemmas.Grind.{common_steps}
use Rattle.pid_script.specs.Lists.{space_line}
use Rattle.pid_script.proofs.list.push_space.Goals as goal

pub returns : goal.returns
unfolding space_line
returns c = grind (arith, common_steps)
