use Rattle.std.proofs.Common.{length}
use Rattle.plain_view.proofs.spaces.+beside.Given as goal

abbrev pub decreases-beside : goal.decreases-beside
decreases-beside l = length l.ids.now
