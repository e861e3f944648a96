use Rattle.std.proofs.Common.{arith}
use Rattle.std.proofs.lemmas.Grind.{common_steps}
use Rattle.pid_commands.proofs.show.write_shown.Goals as goal

pub returns : goal.returns
returns g c = grind (arith, common_steps)
