use Rattle.std.proofs.Common.{refl}
use Rattle.replica.proofs.replica.Replica.make.Goals as goal

pub returns-in_default-clause-torn : goal.returns-in_default-clause-torn
returns-in_default-clause-torn c = refl
