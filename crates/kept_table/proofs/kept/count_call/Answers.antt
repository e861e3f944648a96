use Rattle.std.proofs.Common.{arith}
use Rattle.std.proofs.lemmas.Grind.{common_steps}
use Rattle.kept_table.proofs.kept.count_call.Goals as goal

pub returns-clause-each : goal.returns-clause-each
returns-clause-each c = λ w. grind (arith, common_steps)
