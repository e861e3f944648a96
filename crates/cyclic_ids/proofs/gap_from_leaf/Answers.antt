use Rattle.std.proofs.Common.{rules}
use Rattle.cyclic_ids.proofs.gap_from_leaf.Goals as goal

pub returns-then-n-end : goal.returns-then-n-end
returns-then-n-end c = search rules
