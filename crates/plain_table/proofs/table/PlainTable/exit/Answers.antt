use Rattle.std.proofs.Common.{rules}
use Rattle.pid_types.specs.Exit.{exit}
use Rattle.plain_table.proofs.table.PlainTable.exit.Goals as goal

pub returns-clause-state : goal.returns-clause-state
unfolding exit
returns-clause-state c = search rules
