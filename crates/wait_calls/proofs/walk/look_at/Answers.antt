use Rattle.std.proofs.Common.{arith}
use Rattle.std.proofs.lemmas.Grind.{common_steps}
use Rattle.wait_calls.proofs.walk.look_at.Goals as goal

pub rank-requires : goal.rank-requires
rank-requires c = grind (arith, common_steps)
