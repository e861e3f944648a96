use Rattle.std.proofs.Common.{rules}
use Rattle.worker_jobs.proofs.Parts.{fulfilled}
use Rattle.worker_jobs.proofs.jobs.work.Goals as goal

pub returns-clause-does : goal.returns-clause-does
returns-clause-does g c =
    let made = c.make_calls-refused.ensures.made in
    record { done = fulfilled c.args.calls.now made.0 _ c.make_calls-refused.result (search rules); made = (made.0, made.1, search rules); worker = c.make_calls-refused.ensures.worker }
