use Rattle.std.proofs.lemmas.Grind.{common_steps}
use Rattle.std.proofs.Common.{arith}
use Rattle.pid_types.specs.Names.{level}
use Rattle.plain_view.proofs.view.View.level.Goals as goal

pub returns : goal.returns
unfolding level
returns c = grind (arith, common_steps)
