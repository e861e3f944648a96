use Rattle.std.proofs.Common.{rules}
use Rattle.ns_teardown.proofs.members.parent_falls.Goals as goal

pub returns-then-is_none : goal.returns-then-is_none
returns-then-is_none c = search rules

pub returns-else-is_none : goal.returns-else-is_none
returns-else-is_none c = search rules
