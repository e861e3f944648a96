use Rattle.std.proofs.Common.{◌≡◌, ◌≢◌, ◌<◌, inr, ℕ, List, length, sym, ap, ◌∙◌, arith}
use Rattle.std.proofs.lemmas.Grind.{common_steps}
use Rattle.member_queues.specs.declared.Node.{Node}
use Rattle.member_queues.specs.Heap.{nil, node_at, IsHeap}
use Rattle.member_queues.proofs.Trees as trees
use Rattle.member_queues.proofs.Filling as filling
use Rattle.member_queues.proofs.place.Goals as goal

-- an owner that there is room for is one
owned : (rs : List ℕ) (ns : List Node) (p k : ℕ) → IsHeap rs ns nil → p < length rs → (node_at ns k).owner ≡ p → (node_at ns k).owner ≢ nil
owned rs ns p k w room mine z = let e : p ≡ nil = sym mine ∙ z in let few = w.ranked.few in let rooms = w.ranked.rooms in omega (arith, room, e, few, rooms)

pub index-requires : goal.index-requires
index-requires c = grind (arith, common_steps)

pub index-requires-else-other : goal.index-requires-else-other
index-requires-else-other c =
    let ns : List Node = c.args.forest.now.nodes.items in
    let some = owned c.args.forest.now.roots.items ns c.args.owner c.args.key c.requires.heap c.requires.owner c.requires.mine in
    let is = trees.node_is ns c.args.key c.index.result.now (trees.within ns c.args.key some) c.index.ensures in
    let lt = filling.side_within _ ns c.args.key c.index.result.now.beside c.requires.heap some (inr (sym (ap (λ (n : Node). n.beside) is))) c.if-other.false in
    omega (arith, lt)

pub join-requires-clause-same : goal.join-requires-clause-same
join-requires-clause-same c = grind (arith, common_steps)

pub join-requires-clause-lower : goal.join-requires-clause-lower
join-requires-clause-lower c = grind (arith, common_steps)
