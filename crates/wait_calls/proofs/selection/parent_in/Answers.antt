use Rattle.std.proofs.Common.{arith}
use Rattle.std.proofs.lemmas.Grind.{common_steps}
use Rattle.wait_calls.proofs.selection.parent_in.Goals as goal

pub returns-then-key-keys : goal.returns-then-key-keys
returns-then-key-keys c = grind (arith, common_steps)
