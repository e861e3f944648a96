use Rattle.std.proofs.Common.{take}
use Rattle.call_effects.specs.Touched.{AreWatchedSpaces}
use Rattle.call_effects.proofs.spaces.watch_spaces.Given as goal

abbrev pub invariant-loop-id : goal.invariant-loop-id
invariant-loop-id l = record { watched : AreWatchedSpaces l.table (take l.id-index l.ids) l.spaces.items }
