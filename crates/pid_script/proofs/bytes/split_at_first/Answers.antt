use Rattle.std.proofs.Common.{arith}
use Rattle.pid_script.proofs.Cuts.{cuts}
use Rattle.pid_script.proofs.bytes.split_at_first.Goals as goal

pub returns : goal.returns
returns c = grind (arith, cuts)
