use Rattle.std.proofs.Common.{◌<◌, length, ap, arith, List}
use Rattle.std.proofs.lemmas.Grind.{common_steps}
use Rattle.std.proofs.lemmas.List.{map-set}
use Rattle.member_queues.specs.declared.Node.{Node}
use Rattle.member_queues.proofs.Trees as trees
use Rattle.member_queues.proofs.Filling as filling
use Rattle.member_queues.proofs.fill.Goals as goal

pub index-requires : goal.index-requires
index-requires c = grind (arith, common_steps)

pub set_child-requires-clause-owner : goal.set_child-requires-clause-owner
set_child-requires-clause-owner c = grind (arith, common_steps)

pub set_child-requires-clause-above : goal.set_child-requires-clause-above
set_child-requires-clause-above c away =
    trees.above_within _ _ c.args.key c.index.result.now c.requires.heap c.requires.owned c.index.ensures away

pub set_above-requires : goal.set_above-requires
set_above-requires c some =
    let lt = filling.by_within c.args.forest.now.roots.items c.args.forest.now.nodes.items c.args.key c.args.by c.args.other c.requires.heap c.requires.owned c.requires.sides some in
    let len = c.set_child.ensures.len in
    omega (arith, lt, len)

pub index_mut-requires : goal.index_mut-requires
index_mut-requires c = grind (arith, common_steps)

pub sink-requires : goal.sink-requires
sink-requires c =
    let rs = c.args.forest.now.roots.items in
    let ns : List Node = c.args.forest.now.nodes.items in
    let n2 : List Node = c.set_above.new.nodes.items in
    let key = trees.within ns c.args.key c.requires.owned in
    let is = trees.node_is ns c.args.key c.index.result.now key c.index.ensures in
    let s = c.set_child.ensures in
    let len2 = c.set_above.ensures.len in
    let key2 : c.args.key < length n2 = let len1 = s.len in omega (arith, key, len1, len2) in
    let z = c.index_mut.result.now in
    let ez = trees.node_is n2 c.args.key z key2 c.index_mut.ensures.value in
    let x : Node = record { owner = 4294967295; rank = z.rank; above = z.above; next = z.next; beside = z.beside; level = z.level } in
    let t = filling.written rs c.set_child.new.forest.roots.items ns c.set_child.new.forest.nodes.items n2 c.args.key c.args.by c.args.other
    c.index.result.now x c.requires.heap c.requires.owned c.requires.sides is s.root s.roots s.next s.beside s.others s.len s.rooms
    c.set_above.ensures.here c.set_above.ensures.others len2 (ap (λ (n : Node). n.rank) ez) in
    filling.IsSinking-filled rs ns c.args.key c.args.by c.args.other c.requires.heap c.requires.owned c.requires.sides c.set_child.new.forest.roots.items _ t.0
    (ap (λ (n : Node). n.owner) t.1) c.requires.order

pub returns-clause-members : goal.returns-clause-members
returns-clause-members c = grind (arith, map-set)
