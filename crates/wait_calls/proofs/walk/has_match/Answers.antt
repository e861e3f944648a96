use Rattle.std.proofs.Common.{arith}
use Rattle.std.proofs.lemmas.Grind.{common_steps}
use Rattle.wait_calls.proofs.walk.has_match.Goals as goal

pub children-children-requires : goal.children-children-requires
children-children-requires c = grind (arith, common_steps)

pub loop-preserved : goal.loop-preserved
loop-preserved c = grind arith

pub returns-in-Match-clause-some : goal.returns-in-Match-clause-some
returns-in-Match-clause-some c = grind arith
