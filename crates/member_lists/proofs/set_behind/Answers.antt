use Rattle.std.proofs.Common.{ap}
use Rattle.std.proofs.Math.Seq.{map-set_same}
use Rattle.member_lists.specs.Links.{lone, owner_in}
use Rattle.member_lists.proofs.Linked as linked
use Rattle.member_lists.proofs.set_behind.Goals as goal

pub returns-else-prev-eq-NIL-clause-owners : goal.returns-else-prev-eq-NIL-clause-owners
returns-else-prev-eq-NIL-clause-owners c =
    map-set_same owner_in c.args.links.now.items c.args.prev _ lone (ap owner_in (linked.link_is c.args.links.now.items c.args.prev _ (c.requires.prev c.if-prev-eq-NIL.false) c.index_mut-else-prev-eq-NIL.ensures.value))
