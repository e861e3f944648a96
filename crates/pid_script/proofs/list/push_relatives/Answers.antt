use Rattle.std.proofs.Common.{arith}
use Rattle.std.proofs.lemmas.Grind.{common_steps}
use Rattle.pid_script.specs.Lists.{relatives_text}
use Rattle.pid_script.proofs.list.push_relatives.Goals as goal

pub returns : goal.returns
unfolding relatives_text
returns c = grind (arith, common_steps)
