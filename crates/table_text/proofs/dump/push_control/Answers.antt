use Rattle.std.proofs.Common.{arith}
use Rattle.std.proofs.lemmas.Grind.{common_steps}
use Rattle.table_text.specs.Texts.{control_text_line}
use Rattle.table_text.proofs.dump.push_control.Goals as goal

pub returns : goal.returns
unfolding control_text_line
returns c = grind (arith, common_steps)
