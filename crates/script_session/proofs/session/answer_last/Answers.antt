use Rattle.std.proofs.Common.{sym, ap, subst}
use Rattle.script_session.proofs.Names.{last_said, Answers}
use Rattle.script_session.proofs.Sent.{Sends-nothing}
use Rattle.script_session.proofs.Progress.{Answers-nothing}
use Rattle.script_session.proofs.Ends.{last_kept}
use Rattle.script_session.proofs.session.answer_last.Goals as goal

pub returns-then-is_empty : goal.returns-then-is_empty
returns-then-is_empty g c = record {
  ok = subst (Answers _ _ _ _ _) (ap last_said (sym (c.is_empty.ensures.0 c.if-is_empty.true))) (Answers-nothing _ _ _ (Sends-nothing _ (g.met.K.Sink.nothing c.args.sink.now)) (g.met.T.Table.nothing c.args.table.now));
  err = tt;
  fault = tt;
  stopped = tt;
}

pub returns : goal.returns
returns g c =
    let last = last_kept _ c.args.session.now.part _ c.finish_kept-line.ensures.value c.is_empty.ensures c.if-is_empty.false in
    rw (← last) c.answer_line.ensures.told
