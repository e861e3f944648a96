use Rattle.std.proofs.Common.{rules}
use Rattle.pid_types.specs.Changes.{exec}
use Rattle.plain_table.proofs.table.PlainTable.exec.Goals as goal

pub returns-clause-state : goal.returns-clause-state
unfolding exec
returns-clause-state c = search rules
