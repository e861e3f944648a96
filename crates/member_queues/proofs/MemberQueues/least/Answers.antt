use Rattle.std.proofs.Common.{◌≡◌, ◌<◌, length, Some, sym, ◌∙◌, map}
use Rattle.std.proofs.lemmas.List.{length-map}
use Rattle.member_queues.specs.Ranks.{ranked}
use Rattle.member_queues.specs.Heap.{node_at, member_in}
use Rattle.member_queues.proofs.Trees as trees
use Rattle.member_queues.proofs.MemberQueues.least.Goals as goal

pub returns-then-root : goal.returns-then-root
returns-then-root c k r mine =
    let owner : c.args.owner < length (map member_in c.self.inside.forest.nodes.items) = rw (← c.self.view_is) at c.requires in
    let room : c.args.owner < length c.self.inside.forest.roots.items = rw c.self.invariant.ranked.rooms (simp length-map at owner) in
    let is : ranked (map member_in c.self.inside.forest.nodes.items) k ≡ Some (c.args.owner, r) = rw (← c.self.view_is) at mine in
    let m = trees.member_some (node_at c.self.inside.forest.nodes.items k) c.args.owner r (sym (trees.ranked-nodes c.self.inside.forest.nodes.items k) ∙ is) in
    (trees.top _ _ c.self.invariant c.args.owner k m.0 m.2).0 (trees.root_is c.self.inside.forest.roots.items c.args.owner c.index-root.result.now room c.index-root.ensures ∙ c.if-root.true)

pub returns-else-root : goal.returns-else-root
returns-else-root c =
    let owner : c.args.owner < length (map member_in c.self.inside.forest.nodes.items) = rw (← c.self.view_is) at c.requires in
    let room : c.args.owner < length c.self.inside.forest.roots.items = rw c.self.invariant.ranked.rooms (simp length-map at owner) in
    let e = trees.root_is c.self.inside.forest.roots.items c.args.owner c.index-root.result.now room c.index-root.ensures in
    rw (← c.self.view_is) (trees.IsLeast-root c.self.inside.forest.roots.items c.self.inside.forest.nodes.items c.self.invariant c.args.owner c.index-root.result.now e c.if-root.false)
