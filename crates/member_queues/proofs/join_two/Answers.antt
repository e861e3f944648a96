-- A run beside another begins with a higher rank: so of the two runs found, the second may go below the first
use Rattle.std.proofs.Common.{◌≡◌, ◌≢◌, ◌<◌, ℕ, List, length, refl, sym, ◌∙◌, arith, slice_index_or}
use Rattle.member_queues.specs.declared.Node.{Node}
use Rattle.member_queues.specs.Heap.{nil, node_at, IsHeap}
use Rattle.member_queues.proofs.Trees as trees
use Rattle.member_queues.proofs.Marking as marking
use Rattle.member_queues.proofs.join_two.Goals as goal

-- the first run that was found
module _ (rs : List ℕ) (ns : List Node) (p first run : ℕ) (w : IsHeap rs ns nil) (room : p < length rs) (is : first ≡ slice_index_or rs p first) (some : run ≢ nil)
    (there : run ≢ nil → first ≢ nil) (same : run ≢ nil → (node_at ns run).owner ≡ (node_at ns first).owner) where
  owned : (node_at ns run).owner ≢ nil
  owned z = marking.root_owned rs ns p first w room (trees.root_is rs p first room is) (there some) (sym (same some) ∙ z)

  beside_after : (q : ℕ) (n : Node) → q ≡ n.beside → n ≡ slice_index_or ns run n → q ≢ nil
      → ((node_at ns q).owner ≡ (node_at ns run).owner) × ((node_at ns run).rank < (node_at ns q).rank)
  beside_after q n e read more = grind (arith, trees.node_is, trees.within, owned, trees.side_after)

pub run_of-run-requires-clause-owned : goal.run_of-run-requires-clause-owned
run_of-run-requires-clause-owned c = grind (arith, marking.root_owned, trees.root_is)

pub index-requires-2 : goal.index-requires-2
index-requires-2 c =
    let lt = trees.within c.args.forest.now.nodes.items c.run_of-run.result (owned c.args.forest.now.roots.items c.args.forest.now.nodes.items c.args.owner c.index.result.now
    c.run_of-run.result c.requires.heap c.requires.owner c.index.ensures c.if-run.false c.run_of-run.ensures.first c.run_of-run.ensures.same) in
    omega (arith, lt)

pub run_of-other-requires-clause-owned : goal.run_of-other-requires-clause-owned
run_of-other-requires-clause-owned c more z =
    let mine = owned c.args.forest.now.roots.items c.args.forest.now.nodes.items c.args.owner c.index.result.now
    c.run_of-run.result c.requires.heap c.requires.owner c.index.ensures c.if-run.false c.run_of-run.ensures.first c.run_of-run.ensures.same in
    let after = beside_after c.args.forest.now.roots.items c.args.forest.now.nodes.items c.args.owner c.index.result.now
    c.run_of-run.result c.requires.heap c.requires.owner c.index.ensures c.if-run.false c.run_of-run.ensures.first c.run_of-run.ensures.same
    c.index-2.result.now.beside c.index-2.result.now refl c.index-2.ensures more in
    mine (sym after.0 ∙ z)

pub join-requires-clause-owned : goal.join-requires-clause-owned
join-requires-clause-owned c =
    owned c.args.forest.now.roots.items c.args.forest.now.nodes.items c.args.owner c.index.result.now
    c.run_of-run.result c.requires.heap c.requires.owner c.index.ensures c.if-run.false c.run_of-run.ensures.first c.run_of-run.ensures.same

pub join-requires-clause-same : goal.join-requires-clause-same
join-requires-clause-same c =
    let after = beside_after c.args.forest.now.roots.items c.args.forest.now.nodes.items c.args.owner c.index.result.now
    c.run_of-run.result c.requires.heap c.requires.owner c.index.ensures c.if-run.false c.run_of-run.ensures.first c.run_of-run.ensures.same
    c.index-2.result.now.beside c.index-2.result.now refl c.index-2.ensures (c.run_of-other.ensures.first c.if-other.false) in
    c.run_of-other.ensures.same c.if-other.false ∙ after.0

pub join-requires-clause-lower : goal.join-requires-clause-lower
join-requires-clause-lower c =
    let after = beside_after c.args.forest.now.roots.items c.args.forest.now.nodes.items c.args.owner c.index.result.now
    c.run_of-run.result c.requires.heap c.requires.owner c.index.ensures c.if-run.false c.run_of-run.ensures.first c.run_of-run.ensures.same
    c.index-2.result.now.beside c.index-2.result.now refl c.index-2.ensures (c.run_of-other.ensures.first c.if-other.false) in
    let lt = after.1 in let le = c.run_of-other.ensures.rank c.if-other.false in omega (arith, lt, le)
