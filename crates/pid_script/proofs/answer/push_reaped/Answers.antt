use Rattle.std.proofs.Common.{arith}
use Rattle.std.proofs.lemmas.Grind.{common_steps}
use Rattle.pid_script.proofs.answer.push_reaped.Goals as goal

pub returns-in-Exited-clause-items : goal.returns-in-Exited-clause-items
returns-in-Exited-clause-items c = grind (arith, common_steps)
