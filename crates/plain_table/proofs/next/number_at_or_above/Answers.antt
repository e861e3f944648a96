use Rattle.std.proofs.Common.{rules}
use Rattle.plain_table.proofs.next.number_at_or_above.Goals as goal

pub returns-in_default : goal.returns-in_default
returns-in_default c = search rules
