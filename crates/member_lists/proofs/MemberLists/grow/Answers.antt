use Rattle.std.proofs.Common.{arith}
use Rattle.std.proofs.lemmas.List.{length-map}
use Rattle.member_lists.proofs.Linked as linked
use Rattle.member_lists.proofs.Rooms.{resized, map-append-replicate}
use Rattle.member_lists.proofs.MemberLists.grow.Goals as goal

pub invariant_of-self-2 : goal.invariant_of-self-2
invariant_of-self-2 c = grind (arith, length-map, resized, linked.IsLinked-grown)

pub returns-clause-ok : goal.returns-clause-ok
returns-clause-ok c = grind (arith, resized, map-append-replicate)
