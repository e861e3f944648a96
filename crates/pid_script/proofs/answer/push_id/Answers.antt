use Rattle.std.proofs.Common.{arith}
use Rattle.std.proofs.lemmas.Grind.{common_steps}
use Rattle.pid_script.proofs.answer.push_id.Goals as goal

pub returns-in-NoNumber-clause-items : goal.returns-in-NoNumber-clause-items
returns-in-NoNumber-clause-items c = grind (arith, common_steps)
