use Rattle.std.proofs.lemmas.Result.{IfOk-weaker}
use Rattle.worker_jobs.proofs.serve.serve_all.Goals as goal

pub returns-clause-len : goal.returns-clause-len
returns-clause-len g c = IfOk-weaker c.scoped.result _ _ (λ dones both. both.0) c.scoped.ensures.1.0

pub returns-clause-each : goal.returns-clause-each
returns-clause-each g c = IfOk-weaker c.scoped.result _ _ (λ dones both. both.1) c.scoped.ensures.1.0

pub returns-clause-no_audit : goal.returns-clause-no_audit
returns-clause-no_audit g c = c.scoped.ensures.1.1
