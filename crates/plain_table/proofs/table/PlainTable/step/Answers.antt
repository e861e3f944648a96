use Rattle.std.proofs.Common.{rules}
use Rattle.pid_types.specs.Step.{step}
use Rattle.plain_table.proofs.table.PlainTable.step.Goals as goal

pub returns-in-GetPid-clause-grows : goal.returns-in-GetPid-clause-grows
unfolding step
returns-in-GetPid-clause-grows c = search rules

pub returns-in-Exec-clause-state : goal.returns-in-Exec-clause-state
unfolding step
returns-in-Exec-clause-state c = search rules

pub returns-in-Exec-clause-reply : goal.returns-in-Exec-clause-reply
unfolding step
returns-in-Exec-clause-reply c = search rules
