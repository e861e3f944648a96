use Rattle.std.proofs.Common.{rules}
use Rattle.cyclic_ids.proofs.CyclicIds.restart.Goals as goal

pub returns-then-self-gt300 : goal.returns-then-self-gt300
returns-then-self-gt300 c = search rules
