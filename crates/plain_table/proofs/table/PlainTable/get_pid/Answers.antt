use Rattle.std.proofs.Common.{rules}
use Rattle.pid_types.specs.Queries.{get_pid}
use Rattle.plain_table.proofs.table.PlainTable.get_pid.Goals as goal

pub returns : goal.returns
unfolding get_pid
returns c = search rules
