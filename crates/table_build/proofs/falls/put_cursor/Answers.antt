use Rattle.std.proofs.Common.{arith}
use Rattle.table_build.proofs.falls.put_cursor.Goals as goal

pub returns-in-Some-clause-moved : goal.returns-in-Some-clause-moved
returns-in-Some-clause-moved c = grind arith

pub returns-in-Some-clause-others : goal.returns-in-Some-clause-others
returns-in-Some-clause-others c = grind arith

pub returns-in_default-clause-here : goal.returns-in_default-clause-here
returns-in_default-clause-here c = grind arith
