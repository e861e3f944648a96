use Rattle.std.proofs.Common.{◌≢◌, sym, ap, ◌∙◌, arith}
use Rattle.std.proofs.lemmas.Grind.{common_steps, elements}
use Rattle.std.proofs.Math.Seq.{map-set_same}
use Rattle.member_queues.specs.Heap.{blank, member_in, root_at}
use Rattle.member_queues.proofs.Trees as trees
use Rattle.member_queues.proofs.set_child.Goals as goal

pub index-requires-else-index-key : goal.index-requires-else-index-key
index-requires-else-index-key c = grind (arith, common_steps)

pub index_mut-requires-then-index-key-2 : goal.index_mut-requires-then-index-key-2
index_mut-requires-then-index-key-2 c = grind (arith, common_steps)

pub index_mut-requires-else-index-key-2 : goal.index_mut-requires-else-index-key-2
index_mut-requires-else-index-key-2 c = grind (arith, common_steps)

pub returns-then-index-key-clause-roots : goal.returns-then-index-key-clause-roots
returns-then-index-key-clause-roots c = grind (arith, common_steps)

pub returns-then-index-key-clause-beside : goal.returns-then-index-key-clause-beside
returns-then-index-key-clause-beside c = grind (arith, common_steps)

pub returns-then-index-key-2-clause-root : goal.returns-then-index-key-2-clause-root
returns-then-index-key-2-clause-root c = grind (arith, common_steps)

pub returns-then-index-key-2-clause-next : goal.returns-then-index-key-2-clause-next
returns-then-index-key-2-clause-next c = grind (arith, common_steps)

pub returns-then-index-key-2-clause-beside : goal.returns-then-index-key-2-clause-beside
returns-then-index-key-2-clause-beside c = grind (arith, common_steps)

pub returns-then-index-key-2-clause-others : goal.returns-then-index-key-2-clause-others
returns-then-index-key-2-clause-others c = grind (arith, elements)

pub returns-then-index-key-2-clause-members : goal.returns-then-index-key-2-clause-members
returns-then-index-key-2-clause-members c =
    let away : root_at c.args.forest.now.roots.items c.args.owner ≢ c.args.key = λ z.
    c.if-index-key.false (sym (trees.root_is c.args.forest.now.roots.items c.args.owner c.index.result.now c.requires.owner c.index.ensures) ∙ z) in
    map-set_same member_in c.args.forest.now.nodes.items c.args.above _ blank
    (ap member_in (trees.node_is c.args.forest.now.nodes.items c.args.above c.index_mut-then-index-key-2.result.now (c.requires.above away) c.index_mut-then-index-key-2.ensures.value))

pub returns-else-index-key-2-clause-next : goal.returns-else-index-key-2-clause-next
returns-else-index-key-2-clause-next c = grind (arith, common_steps)

pub returns-else-index-key-2-clause-beside : goal.returns-else-index-key-2-clause-beside
returns-else-index-key-2-clause-beside c = grind (arith, elements)

pub returns-else-index-key-2-clause-others : goal.returns-else-index-key-2-clause-others
returns-else-index-key-2-clause-others c = grind (arith, elements)

pub returns-else-index-key-2-clause-members : goal.returns-else-index-key-2-clause-members
returns-else-index-key-2-clause-members c =
    let away : root_at c.args.forest.now.roots.items c.args.owner ≢ c.args.key = λ z.
    c.if-index-key.false (sym (trees.root_is c.args.forest.now.roots.items c.args.owner c.index.result.now c.requires.owner c.index.ensures) ∙ z) in
    map-set_same member_in c.args.forest.now.nodes.items c.args.above _ blank
    (ap member_in (trees.node_is c.args.forest.now.nodes.items c.args.above c.index_mut-else-index-key-2.result.now (c.requires.above away) c.index_mut-else-index-key-2.ensures.value))
