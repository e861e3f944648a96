use Rattle.std.proofs.Common.{arith}
use Rattle.std.proofs.lemmas.Grind.{common_steps}
use Rattle.pid_types.specs.Names.{numbers_from}
use Rattle.plain_view.proofs.view.View.numbers_from.Goals as goal

pub returns : goal.returns
unfolding numbers_from
returns c = grind (arith, common_steps)
