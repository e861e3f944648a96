use Rattle.script_session.proofs.Names.{with_newline, answer_of, replied}
use Rattle.script_session.proofs.Progress.{call_leads, responds}
use Rattle.script_session.proofs.session.answer_call.Goals as goal

pub returns-clause-told : goal.returns-clause-told
returns-clause-told g c =
    let table = c.act-made.new.self in
    let made = c.act-made.result in
    let held = g.T.Table.held table in
    let told = c.tell_answer.ensures in
    let leads = call_leads g.T.Table.may_starve _ _ c.args.session.now.tally c.args.call made held (g.T.Table.state table) (g.T.Table.stamp table) c.tell_answer.new.session.tally c.act-made.ensures.acts
    told.counted.lines told.recorded told.bad told.starved in
    responds c.tell_answer.result (with_newline (answer_of (replied made held))) _ leads c.act-made.ensures.did told.told.ok told.told.err told.told.fault told.told.stopped
