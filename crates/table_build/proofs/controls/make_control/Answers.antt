use Rattle.std.proofs.Common.{arith}
use Rattle.std.proofs.lemmas.Grind.{elements}
use Rattle.table_build.proofs.controls.make_control.Goals as goal

pub make_control-requires-clause-above : goal.make_control-requires-clause-above
make_control-requires-clause-above c = grind (arith, elements)
