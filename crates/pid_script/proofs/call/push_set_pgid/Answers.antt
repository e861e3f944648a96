use Rattle.std.proofs.Common.{arith}
use Rattle.std.proofs.lemmas.Grind.{common_steps}
use Rattle.pid_script.specs.Lines.{line_of}
use Rattle.pid_script.proofs.call.push_set_pgid.Goals as goal

pub returns : goal.returns
unfolding line_of
returns c = grind (arith, common_steps)
