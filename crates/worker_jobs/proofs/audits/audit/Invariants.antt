use Rattle.std.proofs.Common.{ℕ, ◌<◌}
use Rattle.worker_jobs.specs.Receipts.{IsAuditedAt}
use Rattle.worker_jobs.proofs.audits.audit.Given as goal

abbrev pub invariant-loop-worker : goal.invariant-loop-worker
invariant-loop-worker g l = (w : ℕ) → w < l.worker → IsAuditedAt l.kept l.works w
