use Rattle.std.proofs.Common.{◌<◌, length, map}
use Rattle.std.proofs.lemmas.List.{length-map}
use Rattle.member_lists.specs.Links.{owner_in}
use Rattle.member_lists.proofs.Linked as linked
use Rattle.member_lists.proofs.MemberLists.members.Goals as goal
use Rattle.member_lists.proofs.Walks as walks

pub from-requires : goal.from-requires
from-requires c =
    let owner : c.args.owner < length (map owner_in c.self.inside.links.items) = rw (← c.self.view_is) at c.requires in
    let room : c.args.owner < length c.self.inside.heads.items = rw c.self.invariant.rooms (simp length-map at owner) in
    let is = linked.head_is c.self.inside.heads.items c.args.owner c.index-first.result.now room c.index-first.ensures in
    rw (c.as_slice.ensures.value, ← is) (walks.all_end _ _ c.self.invariant c.args.owner room)

pub returns : goal.returns
returns c =
    let owner : c.args.owner < length (map owner_in c.self.inside.links.items) = rw (← c.self.view_is) at c.requires in
    let room : c.args.owner < length c.self.inside.heads.items = rw c.self.invariant.rooms (simp length-map at owner) in
    let is = linked.head_is c.self.inside.heads.items c.args.owner c.index-first.result.now room c.index-first.ensures in
    rw (c.from.ensures, c.as_slice.ensures.value, ← is, ← c.self.view_is) (walks.are_members _ _ c.self.invariant c.args.owner room)
