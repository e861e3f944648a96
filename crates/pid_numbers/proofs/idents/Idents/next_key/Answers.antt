use Rattle.std.proofs.Common.{arith}
use Rattle.std.proofs.lemmas.Grind.{common_steps}
use Rattle.pid_numbers.proofs.idents.Idents.next_key.Goals as goal

pub returns-clause-vacant : goal.returns-clause-vacant
returns-clause-vacant c = grind (arith, common_steps)
