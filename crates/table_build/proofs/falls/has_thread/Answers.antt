use Rattle.std.proofs.Common.{arith}
use Rattle.table_build.proofs.falls.has_thread.Goals as goal

pub returns : goal.returns
returns c = grind arith
