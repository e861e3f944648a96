use Rattle.std.proofs.Common.{rules}
use Rattle.plain_view.proofs.view.View.uses_number.Goals as goal

pub returns-then-is_numbered-2 : goal.returns-then-is_numbered-2
returns-then-is_numbered-2 c = search rules

pub returns-else-is_numbered-2 : goal.returns-else-is_numbered-2
returns-else-is_numbered-2 c = search rules
