use Rattle.std.proofs.Common.{length}
use Rattle.member_lists.specs.Links.{link_at, chain}
use Rattle.member_lists.proofs.Telling.{IsTelling}
use Rattle.member_lists.proofs.tell_owner.Given as goal

abbrev pub invariant-loop-at : goal.invariant-loop-at
invariant-loop-at l = IsTelling l.fn.links.items l.all (link_at l.fn.links.items l.first).owner l.owner l.first l.at l.last

abbrev pub decreases-loop-at : goal.decreases-loop-at
decreases-loop-at l = length (chain l.fn.links.items l.at (length l.fn.links.items))
