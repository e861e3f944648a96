use Rattle.std.proofs.Common.{arith}
use Rattle.std.proofs.lemmas.Grind.{common_steps}
use Rattle.pid_script.proofs.part.PartLine.push.Goals as goal

pub returns-then-remaining_capacity-bytes-clause-value : goal.returns-then-remaining_capacity-bytes-clause-value
returns-then-remaining_capacity-bytes-clause-value c = grind (arith, common_steps)
