use Rattle.std.proofs.Common.{[], Ok, refl, codes, append-nil}
use Rattle.pid_script.specs.Script.{with_newline}
use Rattle.script_session.proofs.Progress.{empty_leads, bad_leads, responds}
use Rattle.script_session.proofs.Sent.{Sends-nothing}
use Rattle.script_session.proofs.session.answer_line.Goals as goal

pub returns-in-Empty-clause-told : goal.returns-in-Empty-clause-told
returns-in-Empty-clause-told g c =
    let before = c.args.session.now in
    rw c.in-Empty.is (responds (Ok tt) [] [] (empty_leads g.T.Table.may_starve _ _ before.tally _ refl refl refl refl) (g.met.T.Table.nothing c.args.table.now)
    ([], Sends-nothing _ (g.met.K.Sink.nothing c.args.sink.now), append-nil before.outbox) tt tt tt)

pub returns-in-Call-clause-told : goal.returns-in-Call-clause-told
returns-in-Call-clause-told g c = rw c.in-Call.is c.answer_call.ensures.told

pub returns-in-Bad-clause-told : goal.returns-in-Bad-clause-told
returns-in-Bad-clause-told g c =
    let told = c.push_line.ensures in
    rw c.in-Bad.is (responds c.push_line.result (with_newline (codes "bad line")) [] (bad_leads g.T.Table.may_starve _ _ c.args.session.now.tally _ refl refl refl refl) (g.met.T.Table.nothing c.args.table.now)
    told.ok told.err told.fault told.stopped)
