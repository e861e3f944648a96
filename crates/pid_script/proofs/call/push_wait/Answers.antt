use Rattle.std.proofs.Common.{arith}
use Rattle.std.proofs.lemmas.Grind.{common_steps}
use Rattle.pid_script.specs.Lines.{line_of}
use Rattle.pid_script.proofs.call.push_wait.Goals as goal

pub returns-in-Group : goal.returns-in-Group
unfolding line_of
returns-in-Group c = grind (arith, common_steps)
