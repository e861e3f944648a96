use Rattle.std.proofs.Common.{arith}
use Rattle.std.proofs.lemmas.Grind.{common_steps}
use Rattle.table_text.specs.Texts.{names_text}
use Rattle.table_text.proofs.dump.push_names.Goals as goal

pub returns : goal.returns
unfolding names_text
returns c = grind (arith, common_steps)
