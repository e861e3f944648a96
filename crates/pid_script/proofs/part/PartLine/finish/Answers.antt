use Rattle.std.proofs.Common.{arith}
use Rattle.pid_script.proofs.Kept.{said_by_kept}
use Rattle.pid_script.proofs.part.PartLine.finish.Goals as goal

pub returns-then-is_empty-clause-value : goal.returns-then-is_empty-clause-value
returns-then-is_empty-clause-value c = grind (arith, said_by_kept)
