-- Either what waited is sent, or it still waits: the line comes behind it
use Rattle.std.proofs.Common.{refl}
use Rattle.script_session.specs.Dialogue.{Queues}
use Rattle.script_session.proofs.Sent.{holds_short, holds_more, queue_sent, queue_kept}
use Rattle.script_session.proofs.outbox.Outbox.push_line.Goals.{then-remaining_capacity-line+in_ok-flush, else-remaining_capacity-line}
use Rattle.script_session.proofs.outbox.Outbox.push_line.Goals as goal

pub returns-in_err-flush : goal.returns-in_err-flush
returns-in_err-flush g c =
    holds_short c.from_residual.result _ _ c.args.self.now _ _ _ _ c.from_residual.ensures.1 c.in_err-flush.ensures.written

pub returns : goal.returns
returns g c =
    let room = c.if-remaining_capacity-line in
    let waits : Queues (g.K.Sink.did c.args.sink.now room.sink) c.args.self.now room.self =
    elim room.branch [
      | then-remaining_capacity-line+in_ok-flush w ↦
          rw (w.self-is, w.sink-is) (queue_sent _ _ _ w.in_ok-flush.ensures.written.ok w.in_ok-flush.ensures.empty)
      | else-remaining_capacity-line w ↦
          rw (w.self-is, w.sink-is) (queue_kept _ _ _ (g.met.K.Sink.nothing c.args.sink.now) refl)
    ] in
    holds_more _ _ _ _ _ _ _ _ _ waits c.self-2.view_is (rw c.unwrap.ensures at c.try_extend_from_slice.ensures.ok) c.push.ensures.items
