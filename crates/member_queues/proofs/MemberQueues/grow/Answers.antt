use Rattle.std.proofs.Common.{◌≡◌, ◌+◌, ◌≤◌, ◌^◌, ◌++◌, length, map, replicate, arith}
use Rattle.std.proofs.lemmas.List.{length-map}
use Rattle.member_lists.proofs.Rooms.{resized, map-append-replicate}
use Rattle.member_queues.specs.Heap.{blank, member_in}
use Rattle.member_queues.proofs.Entering as entering
use Rattle.member_queues.proofs.MemberQueues.grow.Goals as goal

pub invariant_of-self : goal.invariant_of-self
invariant_of-self c = grind arith

pub invariant_of-self-in_err-resize : goal.invariant_of-self-in_err-resize
invariant_of-self-in_err-resize c = grind arith

pub invariant_of-self-in_err-resize-2 : goal.invariant_of-self-in_err-resize-2
invariant_of-self-in_err-resize-2 c = grind arith

pub invariant_of-self-2 : goal.invariant_of-self-2
invariant_of-self-2 c =
    let forest = c.self.inside.forest in
    let keys : length (map member_in forest.nodes.items) + c.args.more ≤ 2 ^ 30 = rw (← c.self.view_is) at c.requires in
    let few : length forest.nodes.items + c.args.more ≤ 2 ^ 30 = simp length-map at keys in
    let nodes : c.resize.new.self.items ≡ forest.nodes.items ++ replicate c.args.more blank = resized forest.nodes _ c.len.result _ _ c.len.ensures c.in_ok-resize.ensures.items in
    let roots : c.resize-2.new.self.items ≡ c.try_reserve.new.self.items ++ replicate c.args.more 4294967295 =
    resized c.try_reserve.new.self _ c.len.result _ _ (omega (arith, c.len.ensures, c.self.invariant.ranked.rooms, c.try_reserve.ensures.len, forest.nodes.ok.0, forest.roots.ok.0)) c.in_ok-resize-2.ensures.items in
    rw (nodes, roots, c.try_reserve.ensures.items) (entering.IsHeap-grown _ _ _ c.self.invariant (omega (arith, few)))

pub returns-clause-ok : goal.returns-clause-ok
returns-clause-ok c = grind (arith, resized, map-append-replicate)
