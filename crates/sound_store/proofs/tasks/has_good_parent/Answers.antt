use Rattle.std.proofs.Common.{arith}
use Rattle.std.proofs.lemmas.Grind.{common_steps}
use Rattle.sound_store.proofs.tasks.has_good_parent.Goals as goal

pub parent-requires : goal.parent-requires
parent-requires c = grind (arith, common_steps)
