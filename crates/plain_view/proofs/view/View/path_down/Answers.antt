use Rattle.std.proofs.Common.{arith}
use Rattle.std.proofs.lemmas.Grind.{common_steps}
use Rattle.plain_view.proofs.view.View.path_down.Goals as goal

pub returns : goal.returns
returns c = grind (arith, common_steps)
