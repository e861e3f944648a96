use Rattle.std.proofs.Common.{arith}
use Rattle.pid_script.proofs.Numbers.{digits}
use Rattle.pid_script.proofs.number.read_front.Goals as goal

pub overflow_add-number : goal.overflow_add-number
overflow_add-number c = grind (arith, digits)

pub overflow_mul-number : goal.overflow_mul-number
overflow_mul-number c = grind (arith, digits)

pub loop-index-preserved : goal.loop-index-preserved
loop-index-preserved c = grind (arith, digits)
