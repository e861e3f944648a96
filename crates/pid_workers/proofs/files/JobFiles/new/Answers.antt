use Rattle.std.proofs.Common.{rules}
use Rattle.pid_workers.proofs.files.JobFiles.new.Goals as goal

pub invariant_of-result : goal.invariant_of-result
invariant_of-result c = search rules
