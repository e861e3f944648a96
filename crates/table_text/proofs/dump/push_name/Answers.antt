use Rattle.std.proofs.Common.{arith}
use Rattle.std.proofs.lemmas.Grind.{common_steps}
use Rattle.table_text.specs.Texts.{name_word}
use Rattle.table_text.proofs.dump.push_name.Goals as goal

pub returns : goal.returns
unfolding name_word
returns c = grind (arith, common_steps)
