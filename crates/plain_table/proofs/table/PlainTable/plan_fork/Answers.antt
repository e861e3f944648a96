use Rattle.std.proofs.Common.{rules}
use Rattle.pid_types.specs.Fork.{fork}
use Rattle.plain_table.proofs.table.PlainTable.plan_fork.Goals as goal

pub returns-then-space-row : goal.returns-then-space-row
unfolding fork
returns-then-space-row c = search rules

pub returns-then-level-ge32 : goal.returns-then-level-ge32
unfolding fork
returns-then-level-ge32 c = search rules

pub returns-then-is_gone : goal.returns-then-is_gone
unfolding fork
returns-then-is_gone c = search rules

pub returns-then-new_space-3 : goal.returns-then-new_space-3
unfolding fork
returns-then-new_space-3 c = search rules

pub returns-else-new_space-3 : goal.returns-else-new_space-3
unfolding fork
returns-else-new_space-3 c = search rules
