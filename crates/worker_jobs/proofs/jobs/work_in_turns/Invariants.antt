use Rattle.std.proofs.Common.{◌≡◌, ◌≤◌, ◌+◌, List, [], ◌++◌, length}
use Rattle.std.specs.Prelude.{vec_capacity}
use Rattle.std.specs.Slice.Iter.{chunks_rest, chunks_size}
use Rattle.pid_types.specs.declared.call.Call.{Call}
use Rattle.worker_jobs.specs.Job.{Answered, IsServed}
use Rattle.worker_jobs.proofs.jobs.work_in_turns.Given as goal

abbrev pub invariant-loop-turn : goal.invariant-loop-turn
invariant-loop-turn g l =
    (goal.iterator-loop-turn g).can_next l.turn-iterator
    × (goal.iterator-loop-turn g).is_finite l.turn-iterator
    × (chunks_size l.turn-iterator ≡ 64)
    × (length l.receipts.items + length (chunks_rest l.turn-iterator) ≤ vec_capacity l.receipts)
    × (g.D.Desk.worker l.desk ≡ g.D.Desk.worker l.fn.desk)
    × ((done : List Call) × (answers : List Answered) × g.D.Desk.made l.fn.desk l.desk answers
    × IsServed done answers [] l.receipts.items l.refused × (done ++ chunks_rest l.turn-iterator ≡ l.calls))
