use Rattle.std.proofs.Common.{◌<◌, length, map}
use Rattle.std.proofs.lemmas.List.{length-map}
use Rattle.member_queues.specs.Heap.{member_in}
use Rattle.member_queues.proofs.Trees as trees
use Rattle.member_queues.proofs.Walks as walks
use Rattle.member_queues.proofs.MemberQueues.members.Goals as goal

pub from-requires : goal.from-requires
from-requires c =
    let owner : c.args.owner < length (map member_in c.self.inside.forest.nodes.items) = rw (← c.self.view_is) at c.requires in
    let room : c.args.owner < length c.self.inside.forest.roots.items = rw c.self.invariant.ranked.rooms (simp length-map at owner) in
    let is = trees.root_is c.self.inside.forest.roots.items c.args.owner c.index-first.result.now room c.index-first.ensures in
    rw (c.as_slice.ensures.value, ← is) (walks.all_end _ _ c.self.invariant c.args.owner room)

pub returns : goal.returns
returns c =
    let owner : c.args.owner < length (map member_in c.self.inside.forest.nodes.items) = rw (← c.self.view_is) at c.requires in
    let room : c.args.owner < length c.self.inside.forest.roots.items = rw c.self.invariant.ranked.rooms (simp length-map at owner) in
    let is = trees.root_is c.self.inside.forest.roots.items c.args.owner c.index-first.result.now room c.index-first.ensures in
    rw (c.from.ensures, c.as_slice.ensures.value, ← is, ← c.self.view_is) (walks.are_members _ _ c.self.invariant c.args.owner room)
