use Rattle.std.proofs.Common.{arith}
use Rattle.std.proofs.lemmas.Grind.{common_steps}
use Rattle.ns_teardown.proofs.members.finish_member.Goals as goal

pub returns-clause-here : goal.returns-clause-here
returns-clause-here c = grind (arith, common_steps)
