use Rattle.std.proofs.Common.{arith}
use Rattle.table_build.proofs.falls.check_fall.Goals as goal

pub returns-clause-may : goal.returns-clause-may
returns-clause-may c = grind arith

pub returns-then-is_wrong-clause-refused : goal.returns-then-is_wrong-clause-refused
returns-then-is_wrong-clause-refused c = grind arith

pub returns-in_default-clause-refused : goal.returns-in_default-clause-refused
returns-in_default-clause-refused c = grind arith
