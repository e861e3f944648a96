use Rattle.std.proofs.Common.{arith}
use Rattle.pid_script.proofs.Numbers.{digits}
use Rattle.pid_script.proofs.number.read_digits.Goals as goal

pub loop-byte-preserved : goal.loop-byte-preserved
loop-byte-preserved c = grind (arith, digits)

pub returns-in_err-number-clause-none : goal.returns-in_err-number-clause-none
returns-in_err-number-clause-none c = grind (arith, digits)
