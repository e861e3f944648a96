use Rattle.std.proofs.Common.{◌≡◌, ◌≤◌, length, take}
use Rattle.worker_jobs.specs.Receipts.{receipts_kept}
use Rattle.worker_jobs.proofs.audits.skip_cut.Given as goal

abbrev pub invariant-loop-i : goal.invariant-loop-i
invariant-loop-i l =
    (l.from ≤ l.i) × (l.i ≤ length l.receipts) × (receipts_kept l.first (take l.i l.receipts) ≡ receipts_kept l.first (take l.from l.receipts))
