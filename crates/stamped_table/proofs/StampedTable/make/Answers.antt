use Rattle.std.proofs.Common.{arith}
use Rattle.stamped_table.proofs.StampedTable.make.Goals as goal

pub invariant_of-self-2 : goal.invariant_of-self-2
invariant_of-self-2 c = grind arith

pub invariant_of-self : goal.invariant_of-self
invariant_of-self c = grind arith
