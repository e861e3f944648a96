use Rattle.std.proofs.Common.{arith}
use Rattle.pid_workers.proofs.threads.finish_all.Goals as goal

pub returns-clause-jobs : goal.returns-clause-jobs
returns-clause-jobs g c w d j lt = c.in_ok-seats.ensures.jobs w d j (omega (arith, lt, c.requires.jobs))

pub returns-clause-told : goal.returns-clause-told
returns-clause-told g c w j lt = c.in_ok-seats.ensures.told w j (omega (arith, lt, c.requires.jobs))
