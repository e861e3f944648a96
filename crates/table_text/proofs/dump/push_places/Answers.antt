use Rattle.std.proofs.Common.{arith}
use Rattle.std.proofs.lemmas.Grind.{common_steps}
use Rattle.table_text.specs.Texts.{places_text}
use Rattle.table_text.proofs.dump.push_places.Goals as goal

pub returns : goal.returns
unfolding places_text
returns c = grind (arith, common_steps)
