use Rattle.std.proofs.Common.{arith}
use Rattle.std.proofs.lemmas.Grind.{common_steps}
use Rattle.table_text.proofs.rows.write_numbers.Goals as goal

pub returns-then-len-told : goal.returns-then-len-told
returns-then-len-told c = grind (arith, common_steps)
