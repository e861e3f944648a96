-- Either what waited is sent, or it still waits: the line comes behind it
use Rattle.std.proofs.Common.{refl}
use Rattle.script_session.specs.Dialogue.{Queues}
use Rattle.script_session.proofs.Sent.{holds_short, holds_more, queue_sent, queue_kept}
use Rattle.script_session.proofs.outbox.Outbox.push_answer.Goals.{then-remaining_capacity-le-LONGEST_ANSWER+in_ok-flush}
use Rattle.script_session.proofs.outbox.Outbox.push_answer.Goals.{else-remaining_capacity-le-LONGEST_ANSWER}
use Rattle.script_session.proofs.outbox.Outbox.push_answer.Goals as goal

pub returns-in_err-flush : goal.returns-in_err-flush
returns-in_err-flush g c =
    holds_short c.from_residual.result _ _ c.args.self.now _ _ _ _ c.from_residual.ensures.1 c.in_err-flush.ensures.written

pub returns : goal.returns
returns g c =
    let room = c.if-remaining_capacity-le-LONGEST_ANSWER in
    let waits : Queues (g.K.Sink.did c.args.sink.now room.sink) c.args.self.now room.self =
    elim room.branch [
      | then-remaining_capacity-le-LONGEST_ANSWER+in_ok-flush w ↦
          rw (w.self-is, w.sink-is) (queue_sent _ _ _ w.in_ok-flush.ensures.written.ok w.in_ok-flush.ensures.empty)
      | else-remaining_capacity-le-LONGEST_ANSWER w ↦
          rw (w.self-is, w.sink-is) (queue_kept _ _ _ (g.met.K.Sink.nothing c.args.sink.now) refl)
    ] in
    holds_more _ _ _ _ _ _ _ _ _ waits c.self-2.view_is c.push_answer.ensures.items c.push.ensures.items
