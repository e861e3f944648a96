use Rattle.std.proofs.Common.{arith}
use Rattle.std.proofs.lemmas.Grind.{common_steps}
use Rattle.table_build.proofs.names.write_innermost_first.Goals as goal

pub returns : goal.returns
returns c = grind (arith, common_steps)
