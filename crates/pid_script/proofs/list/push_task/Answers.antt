use Rattle.std.proofs.Common.{arith}
use Rattle.std.proofs.lemmas.Grind.{common_steps}
use Rattle.pid_script.proofs.list.push_task.Goals as goal

pub returns : goal.returns
returns c = grind (arith, common_steps)
