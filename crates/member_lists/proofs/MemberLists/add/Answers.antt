use Rattle.std.proofs.Common.{◌≡◌, ◌<◌, length, None, ap, map}
use Rattle.std.proofs.lemmas.List.{length-map, length-set, get_or-set_same, get_or-set_other}
use Rattle.member_lists.specs.declared.Link.{Link}
use Rattle.member_lists.specs.Owners.{owner_of}
use Rattle.member_lists.specs.Links.{lone, owner_in}
use Rattle.member_lists.proofs.Linked as linked
use Rattle.member_lists.proofs.MemberLists.add.Goals as goal

pub put_first-requires-clause-linked : goal.put_first-requires-clause-linked
put_first-requires-clause-linked c =
    let keys : c.args.key < length (map owner_in c.self.inside.links.items) = rw (← c.self.view_is) at c.requires.key in
    let key : c.args.key < length c.self.inside.links.items = simp length-map at keys in
    let free : owner_of (map owner_in c.self.inside.links.items) c.args.key ≡ None = rw (← c.self.view_is) at c.requires.free in
    linked.IsLinked-free _ c.self.inside.links.items _ c.args.key c.self.invariant (linked.free_link c.self.inside.links.items c.args.key free)
    (ap (λ (x : Link). x.owner) (get_or-set_same c.self.inside.links.items c.args.key lone lone key))
    (λ j differs. get_or-set_other c.self.inside.links.items c.args.key j lone lone differs) (length-set c.self.inside.links.items c.args.key lone)
