use Rattle.std.proofs.Common.{rules}
use Rattle.pid_types.specs.Wait.{wait}
use Rattle.plain_table.proofs.table.PlainTable.wait.Goals as goal

pub returns-clause-state : goal.returns-clause-state
unfolding wait
returns-clause-state c = search rules
