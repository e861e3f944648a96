use Rattle.std.proofs.Common.{◌≡◌, ◌<◌, length, Some, sym, ◌∙◌, arith, map}
use Rattle.std.proofs.lemmas.List.{length-map}
use Rattle.member_lists.specs.Owners.{owner_of}
use Rattle.member_lists.specs.Links.{link_at, owner_in}
use Rattle.member_lists.proofs.Linked as linked
use Rattle.member_lists.proofs.MemberLists.first.Goals as goal

pub returns-then-key : goal.returns-then-key
returns-then-key c k mine =
    let owner : c.args.owner < length (map owner_in c.self.inside.links.items) = rw (← c.self.view_is) at c.requires in
    let is : owner_of (map owner_in c.self.inside.links.items) k ≡ Some c.args.owner = rw (← c.self.view_is) at mine in
    let l = linked.some_link (link_at c.self.inside.links.items k) _ (sym (linked.owner_of-links c.self.inside.links.items k) ∙ is) in
    linked.no_members _ _ c.self.invariant c.args.owner (linked.head_is c.self.inside.heads.items c.args.owner c.index-key.result.now (rw c.self.invariant.rooms (simp length-map at owner)) c.index-key.ensures ∙ c.if-key.true) k l.0 l.1

pub returns-else-key : goal.returns-else-key
returns-else-key c = grind (arith, length-map, linked.head_is, linked.owner_of-links, linked.link_some)
