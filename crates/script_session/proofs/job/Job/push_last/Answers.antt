use Rattle.script_session.proofs.Ends.{last_kept}
use Rattle.script_session.proofs.job.Job.push_last.Goals as goal

pub returns-clause-ok : goal.returns-clause-ok
returns-clause-ok c =
    let last = last_kept _ c.args.self.now.part _ c.finish_kept-line.ensures.value c.is_empty.ensures c.if-is_empty.false in
    rw (← last) c.push.ensures.ok

pub returns-clause-err : goal.returns-clause-err
returns-clause-err c =
    let last = last_kept _ c.args.self.now.part _ c.finish_kept-line.ensures.value c.is_empty.ensures c.if-is_empty.false in
    rw (← last) c.push.ensures.err
