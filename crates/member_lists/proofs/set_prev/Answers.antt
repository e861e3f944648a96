use Rattle.std.proofs.Common.{ap}
use Rattle.std.proofs.Math.Seq.{map-set_same}
use Rattle.member_lists.specs.Links.{lone, owner_in}
use Rattle.member_lists.proofs.Linked as linked
use Rattle.member_lists.proofs.set_prev.Goals as goal

pub returns-then-at-ne-NIL-clause-owners : goal.returns-then-at-ne-NIL-clause-owners
returns-then-at-ne-NIL-clause-owners c =
    map-set_same owner_in c.args.links.now.items c.args.at _ lone (ap owner_in (linked.link_is c.args.links.now.items c.args.at _ (c.requires c.if-at-ne-NIL.true) c.index_mut.ensures.value))
