use Rattle.std.proofs.Common.{arith}
use Rattle.std.proofs.lemmas.Grind.{common_steps}
use Rattle.set_calls.proofs.groups.target.Goals as goal

pub parent-requires : goal.parent-requires
parent-requires c = grind (arith, common_steps)
