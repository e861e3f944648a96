use Rattle.std.proofs.Common.{ap}
use Rattle.replica.specs.Reading.{lines_in}
use Rattle.replica.specs.Log.{Log}
use Rattle.replica.proofs.Checked.{calls_checked, announced_checked}
use Rattle.replica.proofs.replica.Replica.check.Goals as goal

pub returns-in-Calls : goal.returns-in-Calls
returns-in-Calls c =
    let calls = c.in-Calls in
    rw calls.is
    (calls_checked c.args.self.now calls.session calls.sequence calls.position calls.digest.now (lines_in calls.lines.now) c.self.inside.kept c.find.result c.is_before.result
    c.judge.result c.judge.ensures c.find.ensures c.is_before.ensures (ap (λ (l : Log). l.kept) c.self.view_is))

pub returns-in-Announced : goal.returns-in-Announced
returns-in-Announced c =
    let it = c.in-Announced in
    rw it.is
    (announced_checked c.args.self.now it.position it.digest.now it.size it.sum.now it.key.now c.self.inside.kept c.find-in-Announced.result
    c.judge-in-Announced.result c.judge-in-Announced.ensures c.find-in-Announced.ensures (ap (λ (l : Log). l.kept) c.self.view_is))
