use Rattle.std.proofs.Common.{arith}
use Rattle.std.proofs.lemmas.Grind.{common_steps}
use Rattle.pid_script.specs.Reading.{fork_new_of}
use Rattle.pid_script.proofs.line.read_fork_new.Goals as goal

pub returns-in-new : goal.returns-in-new
unfolding fork_new_of
returns-in-new c = grind (arith, common_steps)
