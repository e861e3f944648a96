use Rattle.std.proofs.Common.{rules}
use Rattle.std.proofs.lemmas.Result.{err_from_is_err_and}
use Rattle.pid_workers.proofs.threads.run_workers.Goals as goal

pub returns-clause-config : goal.returns-clause-config
returns-clause-config g c = c.in_ok-check_finished.ensures.config

pub returns-clause-kept : goal.returns-clause-kept
returns-clause-kept g c = c.in_ok-check_finished.ensures.kept

pub returns-clause-works : goal.returns-clause-works
returns-clause-works g c = search rules

pub returns-clause-jobs : goal.returns-clause-jobs
returns-clause-jobs g c = search rules

pub returns-clause-audited : goal.returns-clause-audited
returns-clause-audited g c = c.in_ok-check_finished.ensures.audited

-- what came of the jobs, and the record that it is at odds with
pub returns-in_err-check_finished-clause-audit : goal.returns-in_err-check_finished-clause-audit
returns-in_err-check_finished-clause-audit g c =
    let finished = c.in_ok-finished.finished in
    let p = err_from_is_err_and c.from_residual-in_err-check_finished.result c.from_residual-in_err-check_finished.ensures.1 in
    rw (p.1, p.2) (λ worker place is. (finished.kept, finished.works.items, c.in_ok-finished.ensures.jobs, c.in_err-check_finished.ensures.at_odds worker place is))
