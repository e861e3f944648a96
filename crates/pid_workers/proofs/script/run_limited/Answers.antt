use Rattle.std.proofs.Common.{rules}
use Rattle.pid_workers.proofs.script.run_limited.Goals as goal

pub returns-clause-err : goal.returns-clause-err
returns-clause-err g c = search rules

pub returns-clause-talk : goal.returns-clause-talk
returns-clause-talk g c = search rules
