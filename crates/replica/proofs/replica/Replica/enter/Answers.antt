use Rattle.replica.specs.Reading.{lines_in}
use Rattle.replica.specs.Replicas.{replica_of}
use Rattle.replica.specs.Entries.{Calls}
use Rattle.replica.proofs.Checked.{stops_calls}
use Rattle.replica.proofs.Entered.{entered_calls}
use Rattle.replica.proofs.replica.Replica.enter.Goals as goal

pub returns-in-Calls-clause-ok : goal.returns-in-Calls-clause-ok
returns-in-Calls-clause-ok c =
    let calls = c.in-Calls in
    let old = replica_of c.args.self.now c.args.table.now in
    let new = replica_of c.call.new.self c.call.new.table in
    rw calls.is
    (entered_calls c.call.result old new c.args.position calls.session calls.sequence calls.position calls.digest.now (lines_in calls.lines.now) c.args.answers.now.items
    c.call.new.answers.items c.call.ensures.outcome c.call.ensures.called c.call.ensures.answers)

pub returns-in-Calls-clause-err : goal.returns-in-Calls-clause-err
returns-in-Calls-clause-err c =
    let calls = c.in-Calls in
    rw calls.is
    (stops_calls c.call.result (Calls calls.session calls.sequence calls.position calls.digest.now (lines_in calls.lines.now)) (replica_of c.args.self.now c.args.table.now)
    (replica_of c.call.new.self c.call.new.table) c.args.answers.now.items c.call.new.answers.items c.call.ensures.fault c.call.ensures.torn c.call.ensures.front)
