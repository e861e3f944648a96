use Rattle.std.proofs.Common.{rules}
use Rattle.pid_types.specs.Changes.{join}
use Rattle.plain_table.proofs.table.PlainTable.join.Goals as goal

pub returns-clause-state : goal.returns-clause-state
unfolding join
returns-clause-state c = search rules

pub returns-clause-reply : goal.returns-clause-reply
unfolding join
returns-clause-reply c = search rules
