use Rattle.std.proofs.Common.{rules}
use Rattle.pid_types.specs.Queries.{ns_pid}
use Rattle.plain_table.proofs.table.PlainTable.ns_pid.Goals as goal

pub returns : goal.returns
unfolding ns_pid
returns c = search rules
