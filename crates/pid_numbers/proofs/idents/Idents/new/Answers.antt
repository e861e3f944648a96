use Rattle.std.proofs.Common.{arith}
use Rattle.pid_numbers.proofs.idents.Idents.new.Goals as goal

pub invariant_of-result : goal.invariant_of-result
invariant_of-result c = grind arith
