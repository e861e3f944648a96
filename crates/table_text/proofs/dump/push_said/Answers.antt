use Rattle.std.proofs.Common.{arith}
use Rattle.std.proofs.lemmas.Grind.{common_steps}
use Rattle.table_text.specs.Texts.{dump_text}
use Rattle.table_text.proofs.dump.push_said.Goals as goal

pub returns : goal.returns
unfolding dump_text
returns c = grind (arith, common_steps)
