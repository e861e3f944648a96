use Rattle.std.proofs.Common.{rules}
use Rattle.pid_types.specs.Exit.{new_parent}
use Rattle.plain_table.proofs.table.PlainTable.new_parent.Goals as goal

pub returns-in-Some-heir : goal.returns-in-Some-heir
unfolding new_parent
returns-in-Some-heir c = search rules

pub returns-in-None-heir : goal.returns-in-None-heir
unfolding new_parent
returns-in-None-heir c = search rules
