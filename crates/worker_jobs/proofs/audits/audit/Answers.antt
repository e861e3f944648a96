use Rattle.std.proofs.Common.{rules}
use Rattle.worker_jobs.proofs.audits.audit.Goals as goal

pub loop-worker-init : goal.loop-worker-init
loop-worker-init g c = search rules

pub returns-clause-ok : goal.returns-clause-ok
returns-clause-ok g c = search rules
