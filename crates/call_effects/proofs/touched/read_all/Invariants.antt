use Rattle.std.proofs.Common.{take}
use Rattle.call_effects.specs.Touched.{AreWatched}
use Rattle.call_effects.proofs.touched.read_all.Given as goal

abbrev pub invariant-loop-number : goal.invariant-loop-number
invariant-loop-number l = record { watched : AreWatched l.table (take l.number-index l.numbers) l.tasks.items }
