use Rattle.std.proofs.Common.{rules}
use Rattle.pid_types.specs.Changes.{make_control, with_control}
use Rattle.plain_table.proofs.table.PlainTable.make_control.Goals as goal

pub returns-clause-state : goal.returns-clause-state
unfolding make_control with_control
returns-clause-state c = search rules

pub returns-clause-reply : goal.returns-clause-reply
unfolding make_control with_control
returns-clause-reply c = search rules
