use Rattle.std.proofs.Common.{length}
use Rattle.plain_view.proofs.spaces.+beside_from.Given as goal

abbrev pub decreases-beside_from : goal.decreases-beside_from
decreases-beside_from l = length l.ids.now
