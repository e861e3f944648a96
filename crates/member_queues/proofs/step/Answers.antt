-- One step of a merge: what ranks lower stays, else the held tree is hung there and the rest is held; either way ranks rise
use Rattle.std.proofs.Common.{◌≢◌, ◌<◌, List, length, sym, ◌∙◌, arith}
use Rattle.std.proofs.lemmas.Grind.{common_steps}
use Rattle.member_queues.specs.declared.Node.{Node}
use Rattle.member_queues.specs.Heap.{nil, node_at, key_on}
use Rattle.member_queues.proofs.Trees as trees
use Rattle.member_queues.proofs.Sinking as sinking
use Rattle.member_queues.proofs.step.Goals as goal

pub index-requires : goal.index-requires
index-requires c = grind (arith, common_steps)

pub index_mut-requires : goal.index_mut-requires
index_mut-requires c = grind (arith, common_steps)

pub index_mut-requires-else-lower-rank : goal.index_mut-requires-else-lower-rank
index_mut-requires-else-lower-rank c = grind (arith, common_steps)

pub returns-then-lower-rank-clause-sinking : goal.returns-then-lower-rank-clause-sinking
returns-then-lower-rank-clause-sinking c =
    let ns : List Node = c.args.forest.now.nodes.items in
    let lt = trees.within ns c.args.at (c.requires.sinking.owned c.requires.some) in
    let is = sinking.on_read ns c.args.side c.args.at c.key_on-behind.result c.index.result.now lt c.key_on-behind.ensures c.index.ensures in
    let there = sinking.rank_there ns c.as_slice.result.now c.key_on-behind.result c.rank_of-lower.result c.args.rank c.as_slice.ensures.value c.requires.sinking.heap.ranked.few
    (omega (arith, c.ranges.rank)) c.if-lower-rank.true c.rank_of-lower.ensures.none in
    let some : key_on c.args.side (node_at ns c.args.at) ≢ nil = rw is at there.0 in
    let low = sinking.rank_read ns c.as_slice.result.now c.key_on-behind.result c.rank_of-lower.result c.as_slice.ensures.value there.1 c.rank_of-lower.ensures.there in
    let less : (node_at ns c.key_on-behind.result).rank < (node_at ns c.args.held).rank = let lower = c.if-lower-rank.true in let mine = c.requires.rank in omega (arith, low, lower, mine) in
    let less' : (node_at ns (key_on c.args.side (node_at ns c.args.at))).rank < (node_at ns c.args.held).rank = rw is at less in
    rw is (sinking.IsSinking-on _ ns c.args.side c.args.at c.args.held c.requires.sinking c.requires.some some less')

pub returns-then-lower-rank-clause-on : goal.returns-then-lower-rank-clause-on
returns-then-lower-rank-clause-on c =
    let ns : List Node = c.args.forest.now.nodes.items in
    let lt = trees.within ns c.args.at (c.requires.sinking.owned c.requires.some) in
    let is = sinking.on_read ns c.args.side c.args.at c.key_on-behind.result c.index.result.now lt c.key_on-behind.ensures c.index.ensures in
    let there = sinking.rank_there ns c.as_slice.result.now c.key_on-behind.result c.rank_of-lower.result c.args.rank c.as_slice.ensures.value c.requires.sinking.heap.ranked.few
    (omega (arith, c.ranges.rank)) c.if-lower-rank.true c.rank_of-lower.ensures.none in
    let some : key_on c.args.side (node_at ns c.args.at) ≢ nil = rw is at there.0 in
    rw is (sinking.on_higher _ ns c.args.side c.args.at c.args.held c.requires.sinking c.requires.some some)

pub returns-else-lower-rank-clause-sinking : goal.returns-else-lower-rank-clause-sinking
returns-else-lower-rank-clause-sinking c =
    let ns : List Node = c.args.forest.now.nodes.items in
    let lt = trees.within ns c.args.at (c.requires.sinking.owned c.requires.some) in
    let is = sinking.on_read ns c.args.side c.args.at c.key_on-behind.result c.index.result.now lt c.key_on-behind.ensures c.index.ensures in
    let put = sinking.put_read ns c.args.side c.args.at c.args.held c.put_on.new.node c.index_mut.result.now lt c.put_on.ensures c.index_mut.ensures.value in
    let higher : key_on c.args.side (node_at ns c.args.at) ≢ nil → (node_at ns (key_on c.args.side (node_at ns c.args.at))).rank < (node_at ns c.args.held).rank → ⊥ = λ some.
    rw (← is) (λ less.
    let here : c.key_on-behind.result < length ns = rw is (sinking.on_within _ ns c.args.side c.args.at c.args.held c.requires.sinking c.requires.some some) in
    let low = sinking.rank_read ns c.as_slice.result.now c.key_on-behind.result c.rank_of-lower.result c.as_slice.ensures.value here c.rank_of-lower.ensures.there in
    let not = c.if-lower-rank.false in let mine = c.requires.rank in
    omega (arith, low, less, not, mine)) in
    rw is (sinking.step-hung _ ns c.args.side c.args.at c.args.held c.put_on.new.node c.index_mut-else-lower-rank.result.now c.requires.sinking c.requires.some put c.index_mut-else-lower-rank.ensures.value higher)

pub returns-else-lower-rank-clause-on : goal.returns-else-lower-rank-clause-on
returns-else-lower-rank-clause-on c =
    let ns : List Node = c.args.forest.now.nodes.items in
    let lt = trees.within ns c.args.at (c.requires.sinking.owned c.requires.some) in
    let put = sinking.put_read ns c.args.side c.args.at c.args.held c.put_on.new.node c.index_mut.result.now lt c.put_on.ensures c.index_mut.ensures.value in
    sinking.step-higher _ ns c.args.side c.args.at c.args.held c.put_on.new.node c.index_mut-else-lower-rank.result.now c.requires.sinking c.requires.some put c.index_mut-else-lower-rank.ensures.value

pub returns-else-lower-rank-clause-rank : goal.returns-else-lower-rank-clause-rank
returns-else-lower-rank-clause-rank c more =
    let ns : List Node = c.args.forest.now.nodes.items in
    let lt = trees.within ns c.args.at (c.requires.sinking.owned c.requires.some) in
    let is = sinking.on_read ns c.args.side c.args.at c.key_on-behind.result c.index.result.now lt c.key_on-behind.ensures c.index.ensures in
    let put = sinking.put_read ns c.args.side c.args.at c.args.held c.put_on.new.node c.index_mut.result.now lt c.put_on.ensures c.index_mut.ensures.value in
    let some : key_on c.args.side (node_at ns c.args.at) ≢ nil = rw is at more in
    let within : c.key_on-behind.result < length ns = rw is (sinking.on_within _ ns c.args.side c.args.at c.args.held c.requires.sinking c.requires.some some) in
    sinking.rank_read ns c.as_slice.result.now c.key_on-behind.result c.rank_of-lower.result c.as_slice.ensures.value within c.rank_of-lower.ensures.there
    ∙ sym (sinking.step-ranks _ ns c.args.side c.args.at c.args.held c.put_on.new.node c.index_mut-else-lower-rank.result.now c.requires.sinking c.requires.some put c.index_mut-else-lower-rank.ensures.value
    c.key_on-behind.result)

pub returns-else-lower-rank-clause-members : goal.returns-else-lower-rank-clause-members
returns-else-lower-rank-clause-members c =
    let ns : List Node = c.args.forest.now.nodes.items in
    let lt = trees.within ns c.args.at (c.requires.sinking.owned c.requires.some) in
    let put = sinking.put_read ns c.args.side c.args.at c.args.held c.put_on.new.node c.index_mut.result.now lt c.put_on.ensures c.index_mut.ensures.value in
    sinking.step-members _ ns c.args.side c.args.at c.args.held c.put_on.new.node c.index_mut-else-lower-rank.result.now c.requires.sinking c.requires.some put c.index_mut-else-lower-rank.ensures.value
