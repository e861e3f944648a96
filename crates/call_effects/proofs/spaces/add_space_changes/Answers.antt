use Rattle.std.proofs.Common.{arith}
use Rattle.std.proofs.lemmas.Grind.{common_steps}
use Rattle.call_effects.proofs.spaces.add_space_changes.Goals as goal

pub returns-clause-items : goal.returns-clause-items
returns-clause-items c = grind (arith, common_steps)

pub loop-watched-preserved : goal.loop-watched-preserved
loop-watched-preserved c = grind (arith, common_steps)
