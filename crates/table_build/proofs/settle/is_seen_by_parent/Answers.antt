use Rattle.std.proofs.Common.{arith}
use Rattle.table_build.proofs.settle.is_seen_by_parent.Goals as goal

pub returns-in-Some-space_of : goal.returns-in-Some-space_of
returns-in-Some-space_of c = grind arith

pub returns-in_default : goal.returns-in_default
returns-in_default c = grind arith

pub returns-in-None : goal.returns-in-None
returns-in-None c = grind arith
