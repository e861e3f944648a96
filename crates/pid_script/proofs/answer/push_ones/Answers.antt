use Rattle.std.proofs.Common.{arith}
use Rattle.pid_script.proofs.Digits.{one_digit}
use Rattle.pid_script.proofs.answer.push_ones.Goals as goal

pub returns-clause-items : goal.returns-clause-items
returns-clause-items c = grind (arith, one_digit)
