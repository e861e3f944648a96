use Rattle.std.proofs.Common.{◌≡◌, ◌≤◌, ◌-◌, length, take}
use Rattle.worker_jobs.specs.Receipts.{receipts_kept, owed_from}
use Rattle.worker_jobs.proofs.audits.first_difference.Given as goal

abbrev pub invariant-loop-ordinal : goal.invariant-loop-ordinal
invariant-loop-ordinal g l =
    (l.next ≤ length l.receipts)
    × (receipts_kept l.kept.first_kept (take l.next l.receipts) ≡ owed_from l.kept.first_kept l.worker (take (l.ordinal - l.kept.first_kept) l.kept.entries))
    × (length (receipts_kept l.kept.first_kept (take l.next l.receipts)) ≡ l.place)
    × (l.place ≤ l.next)
