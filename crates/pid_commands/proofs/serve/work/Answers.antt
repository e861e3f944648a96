use Rattle.std.proofs.Common.{inl, inr, refl, subst}
use Rattle.std.proofs.lemmas.Result.{err_from_is_err_and}
use Rattle.pid_workers.specs.Audits.{TellsAudit}
use Rattle.pid_commands.proofs.serve.work.Goals as goal

-- a job that could not be read, and nothing was written
pub returns-in_err-jobs-clause-fault : goal.returns-in_err-jobs-clause-fault
returns-in_err-jobs-clause-fault g c from to unread =
    let p = err_from_is_err_and c.from_residual.result c.from_residual.ensures.1 in
    rw (p.1, p.2) (inl (inl c.in_err-jobs.ensures.fault, refl))

-- the workers met a fault, and nothing was written
pub returns-in_err-text-clause-fault : goal.returns-in_err-text-clause-fault
returns-in_err-text-clause-fault g c from to unread =
    let p = err_from_is_err_and c.from_residual-in_err-text.result c.from_residual-in_err-text.ensures.1 in
    let met = c.in_err-text.ensures.fault in
    rw (p.1, p.2)
    (inl (inr (c.in_ok-jobs.jobs.items, c.in_ok-jobs.ensures.jobs, (met.0, met.1, subst (λ jobs. TellsAudit c.args.config.now jobs met.0) c.as_slice.ensures.value met.2)), refl))
