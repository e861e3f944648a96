use Rattle.std.proofs.Common.{rules}
use Rattle.plain_view.proofs.view.View.uses_none.Goals as goal

pub returns-then-is_none-2 : goal.returns-then-is_none-2
returns-then-is_none-2 c = search rules

pub returns-else-is_none-2 : goal.returns-else-is_none-2
returns-else-is_none-2 c = search rules
