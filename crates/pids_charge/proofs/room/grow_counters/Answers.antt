use Rattle.std.proofs.Common.{arith}
use Rattle.std.proofs.lemmas.Grind.{common_steps}
use Rattle.pids_charge.proofs.room.grow_counters.Goals as goal

pub loop-counters-preserved : goal.loop-counters-preserved
loop-counters-preserved c = grind (arith, common_steps)
