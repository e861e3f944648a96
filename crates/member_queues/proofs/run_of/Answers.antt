use Rattle.std.proofs.Common.{◌≢◌, inr, List, sym, ap, ◌∙◌, arith}
use Rattle.std.proofs.lemmas.Grind.{common_steps}
use Rattle.member_queues.specs.declared.Node.{Node}
use Rattle.member_queues.specs.Heap.{nil, node_at}
use Rattle.member_queues.proofs.Trees as trees
use Rattle.member_queues.proofs.run_of.Goals as goal

pub index-requires : goal.index-requires
index-requires c = grind (arith, common_steps)

pub index-requires-in-loop-at : goal.index-requires-in-loop-at
index-requires-in-loop-at c = grind (arith, common_steps)

pub loop-at-smaller : goal.loop-at-smaller
loop-at-smaller c = grind (arith, common_steps)

pub loop-at-preserved : goal.loop-at-preserved
loop-at-preserved c =
    let ns : List Node = c.args.forest.now.nodes.items in
    let i = c.loop-at.invariant in
    let some : c.loop-at.at ≢ nil = c.loop-at-test.true in
    let first = i.first some in
    let owned : (node_at ns c.loop-at.at).owner ≢ nil = λ z. c.requires.owned first (sym (i.same some) ∙ z) in
    let is = trees.node_is ns c.loop-at.at c.index-in-loop-at.result.now (trees.within ns c.loop-at.at owned) c.index-in-loop-at.ensures in
    let after = trees.side_after _ ns nil c.loop-at.at c.index-in-loop-at.result.now.beside c.requires.heap owned in
    let below = inr (sym (ap (λ (n : Node). n.beside) is)) in
    record {
      first = λ _. first;
      same = λ more. (after more below).0 ∙ i.same some;
      rank = λ more. let lt = (after more below).1 in let le = i.rank some in omega (arith, lt, le);
    }
