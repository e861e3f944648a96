use Rattle.std.proofs.lemmas.Result.{err_from_is_err_and}
use Rattle.script_session.proofs.Progress.{flushes}
use Rattle.script_session.proofs.session.answer_piece.Goals as goal

pub returns-in_err-answer_read-clause-told : goal.returns-in_err-answer_read-clause-told
returns-in_err-answer_read-clause-told g c =
    let p = err_from_is_err_and c.from_residual.result c.from_residual.ensures.1 in
    let told = c.in_err-answer_read.ensures.told in
    rw (p.1, p.2) (record { ok = tt; err = told.err; fault = told.fault; stopped = told.stopped })

pub returns-clause-told : goal.returns-clause-told
returns-clause-told g c =
    let sent = c.flush.ensures in
    flushes c.flush.result (g.met.K.Sink.more _ _ _) c.in_ok-answer_read.ensures.told.ok sent.written.ok sent.empty sent.written.err sent.written.fault sent.written.stopped

pub returns-clause-empty : goal.returns-clause-empty
returns-clause-empty g c = c.flush.ensures.empty
