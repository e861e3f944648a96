use Rattle.std.proofs.Common.{arith}
use Rattle.stamped_table.proofs.StampedTable.new.Goals as goal

pub invariant_of-result : goal.invariant_of-result
invariant_of-result c = grind arith
