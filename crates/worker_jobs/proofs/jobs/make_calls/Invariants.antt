use Rattle.std.proofs.Common.{◌≡◌, ◌≤◌, ◌<◌, ◌+◌, ℕ, List, take, length}
use Rattle.std.specs.Prelude.{vec_capacity}
use Rattle.worker_jobs.specs.Job.{Answered, IsServed}
use Rattle.worker_jobs.proofs.jobs.make_calls.Given as goal

abbrev pub invariant-loop-i : goal.invariant-loop-i
invariant-loop-i g l =
    (length l.receipts.items + length l.calls ≤ vec_capacity l.receipts + l.i)
    × (vec_capacity l.fn.receipts ≤ vec_capacity l.receipts)
    × (g.D.Desk.worker l.desk ≡ g.D.Desk.worker l.fn.desk)
    × (l.refused ≤ l.i)
    × ((answers : List Answered) × g.D.Desk.made l.fn.desk l.desk answers × IsServed (take l.i l.calls) answers l.fn.receipts.items l.receipts.items l.refused)
    × ((k : ℕ) → k < l.i → g.G.Gate.was_before l.gate l.worker (k + 1) × g.G.Gate.was_after l.gate l.worker (k + 1))
