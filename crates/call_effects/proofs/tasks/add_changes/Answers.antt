use Rattle.std.proofs.Common.{arith}
use Rattle.std.proofs.lemmas.Grind.{common_steps}
use Rattle.call_effects.proofs.tasks.add_changes.Goals as goal

pub loop-watched-preserved : goal.loop-watched-preserved
loop-watched-preserved c = grind (arith, common_steps)

pub returns-clause-items : goal.returns-clause-items
returns-clause-items c = grind (arith, common_steps)
