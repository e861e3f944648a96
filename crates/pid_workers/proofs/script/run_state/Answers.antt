use Rattle.std.proofs.Common.{rules}
use Rattle.pid_workers.proofs.script.run_state.Goals as goal

pub returns-clause-err : goal.returns-clause-err
returns-clause-err g c = search rules

pub returns-clause-ok : goal.returns-clause-ok
returns-clause-ok g c = search rules

pub returns-clause-history : goal.returns-clause-history
returns-clause-history g c = search rules
