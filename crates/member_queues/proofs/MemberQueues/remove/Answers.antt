-- Two runs lose what led to them: the one that begins lower takes the key's place, and not being lower must mean the other is
use Rattle.std.proofs.Common.{◌≡◌, ◌≢◌, inl, inr, ℕ, IsSome, sym, ap, List, Option, map, arith}
use Rattle.std.proofs.lemmas.Grind.{common_steps}
use Rattle.member_queues.specs.declared.Node.{Node}
use Rattle.member_queues.specs.Ranks.{ranked}
use Rattle.member_queues.specs.Heap.{nil, node_at, member_in}
use Rattle.member_queues.proofs.Trees as trees
use Rattle.member_queues.proofs.Filling as filling
use Rattle.member_queues.proofs.MemberQueues.remove.Goals as goal
use Rattle.member_queues.proofs.MemberQueues.remove.Goals.{then-is_before, else-is_before}

owned : (ns : List Node) (view : List (Option (ℕ × ℕ))) (k : ℕ) → map member_in ns ≡ view → IsSome (ranked view k) → (node_at ns k).owner ≢ nil
owned ns view k is some = grind (arith, trees.member_there, trees.ranked-nodes)

pub index-requires : goal.index-requires
index-requires c = grind (arith, common_steps)

pub is_before-requires-clause-a : goal.is_before-requires-clause-a
is_before-requires-clause-a c =
    let ns : List Node = c.self.inside.forest.nodes.items in
    let mine = owned ns c.args.self.now c.args.key c.self.view_is c.requires.owned in
    let is = trees.node_is ns c.args.key c.index.result.now (trees.within ns c.args.key mine) c.index.ensures in
    rw c.as_slice.ensures.value (filling.side_within _ ns c.args.key c.index.result.now.next c.self.invariant mine (inl (sym (ap (λ (x : Node). x.next) is))))

pub is_before-requires-clause-b : goal.is_before-requires-clause-b
is_before-requires-clause-b c =
    let ns : List Node = c.self.inside.forest.nodes.items in
    let mine = owned ns c.args.self.now c.args.key c.self.view_is c.requires.owned in
    let is = trees.node_is ns c.args.key c.index.result.now (trees.within ns c.args.key mine) c.index.ensures in
    rw c.as_slice.ensures.value (filling.side_within _ ns c.args.key c.index.result.now.beside c.self.invariant mine (inr (sym (ap (λ (x : Node). x.beside) is))))

pub fill-requires-clause-owned : goal.fill-requires-clause-owned
fill-requires-clause-owned c = grind (arith, common_steps)

pub fill-requires-clause-sides : goal.fill-requires-clause-sides
fill-requires-clause-sides c = grind (arith, common_steps)

pub fill-requires-else-is_before-clause-owned : goal.fill-requires-else-is_before-clause-owned
fill-requires-else-is_before-clause-owned c = grind (arith, common_steps)

pub fill-requires-else-is_before-clause-sides : goal.fill-requires-else-is_before-clause-sides
fill-requires-else-is_before-clause-sides c = grind (arith, common_steps)

pub fill-requires-else-is_before-clause-order : goal.fill-requires-else-is_before-clause-order
fill-requires-else-is_before-clause-order c = grind (arith, owned, trees.node_is, trees.within, filling.after_beside)

pub set_level-requires-clause-heap : goal.set_level-requires-clause-heap
set_level-requires-clause-heap c = grind arith

pub set_level-requires-clause-at : goal.set_level-requires-clause-at
set_level-requires-clause-at c some =
    let ns : List Node = c.self.inside.forest.nodes.items in
    let mine = owned ns c.args.self.now c.args.key c.self.view_is c.requires.owned in
    let is = trees.node_is ns c.args.key c.index.result.now (trees.within ns c.args.key mine) c.index.ensures in
    let lt = filling.side_within _ ns c.args.key c.index.result.now.next c.self.invariant mine (inl (sym (ap (λ (x : Node). x.next) is))) some in
    elim c.if-is_before.branch [
      | then-is_before w ↦ rw w.self-inside-is (let len = w.fill.ensures.len in omega (arith, lt, len))
      | else-is_before w ↦ rw w.self-inside-is (let len = w.fill-else-is_before.ensures.len in omega (arith, lt, len))
    ]
