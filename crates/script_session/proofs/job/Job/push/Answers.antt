use Rattle.std.proofs.Common.{refl}
use Rattle.pid_script.specs.declared.line.Line.TheVariants as says
use Rattle.script_session.proofs.Jobs.{reached_first}
use Rattle.script_session.proofs.job.Job.push.Goals as goal

pub returns-in-Bad-clause-ok : goal.returns-in-Bad-clause-ok
returns-in-Bad-clause-ok c = tt

pub returns-in-Bad-clause-err : goal.returns-in-Bad-clause-err
returns-in-Bad-clause-err c = (1, refl, rw c.in-Bad.is (reached_first says.Bad))

pub returns-in-Err-clause-err : goal.returns-in-Err-clause-err
returns-in-Err-clause-err c = (c.in-Call.call, 1, rw c.in-Call.is (reached_first (says.Call c.in-Call.call)))
