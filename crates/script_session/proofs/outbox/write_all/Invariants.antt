use Rattle.std.proofs.Common.{◌≡◌, ◌++◌, List, ℕ, length}
use Rattle.script_session.specs.Dialogue.{Sends}
use Rattle.script_session.proofs.outbox.write_all.Given as goal

abbrev pub invariant-loop-left : goal.invariant-loop-left
invariant-loop-left g l =
    (sent : List ℕ) × Sends (g.K.Sink.did l.initial.sink l.sink) sent × (l.bytes ≡ sent ++ l.left)

abbrev pub decreases-loop-left : goal.decreases-loop-left
decreases-loop-left g l = length l.left
