use Rattle.std.proofs.Common.{rules}
use Rattle.pid_types.specs.Queries.{get_ppid}
use Rattle.plain_table.proofs.table.PlainTable.get_ppid.Goals as goal

pub returns-in-Some-parent : goal.returns-in-Some-parent
unfolding get_ppid
returns-in-Some-parent c = search rules
