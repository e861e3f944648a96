use Rattle.std.proofs.Common.{◌≢◌, ℕ, List, get_or, arith}
use Rattle.std.proofs.lemmas.Grind.{common_steps}
use Rattle.std.proofs.lemmas.List.{get_or_default}
use Rattle.member_queues.specs.declared.Node.{Node}
use Rattle.member_queues.specs.Heap.{nil, blank}
use Rattle.member_queues.proofs.Trees as trees
use Rattle.member_queues.proofs.Telling as telling
use Rattle.member_queues.proofs.Walks as walks
use Rattle.member_queues.proofs.tell_owner.Goals as goal

-- what is read at a place that no node stands at
abbrev zero : Node
zero = record { owner = 0; rank = 0; above = 0; next = 0; beside = 0; level = 0 }

pub loop-at-init : goal.loop-at-init
loop-at-init c =
    let rs : List ℕ = c.args.forest.now.roots.items in
    let ns : List Node = c.args.forest.now.nodes.items in
    let some : c.args.from ≢ nil = omega (arith, c.requires.from, c.requires.heap.ranked.few, c.requires.heap.ranked.rooms) in
    let is = trees.root_is rs c.args.from c.index-run.result.now c.requires.from c.index-run.ensures in
    rw (← is, c.as_mut_slice-nodes.ensures.value) (telling.begins ns c.args.from c.args.to _ some (walks.all_end rs ns c.requires.heap c.args.from c.requires.from)
    (walks.are_members rs ns c.requires.heap c.args.from c.requires.from))

pub after-requires-clause-run : goal.after-requires-clause-run
after-requires-clause-run c = grind (arith, common_steps)

pub loop-at-smaller : goal.loop-at-smaller
loop-at-smaller c =
    let ns : List Node = c.args.forest.now.nodes.items in
    let w = c.loop-at.invariant in
    let lt = telling.at_within ns c.loop-at.nodes c.args.from c.args.to c.loop-at.run c.loop-at.at w c.loop-at-test.true in
    telling.fewer_read ns c.loop-at.nodes c.args.from c.args.to c.loop-at.run c.loop-at.at w c.loop-at-test.true
    (get_or c.loop-at.nodes c.loop-at.at zero) c.after.result.0 c.after.result.1 (get_or_default c.loop-at.nodes c.loop-at.at zero blank lt) c.after.ensures.run c.after.ensures.key

pub loop-at-preserved : goal.loop-at-preserved
loop-at-preserved c =
    let ns : List Node = c.args.forest.now.nodes.items in
    let w = c.loop-at.invariant in
    let lt = telling.at_within ns c.loop-at.nodes c.args.from c.args.to c.loop-at.run c.loop-at.at w c.loop-at-test.true in
    telling.turn ns c.loop-at.nodes c.args.from c.args.to c.loop-at.run c.loop-at.at w c.loop-at-test.true
    (get_or c.loop-at.nodes c.loop-at.at zero) c.after.result.0 c.after.result.1 (get_or_default c.loop-at.nodes c.loop-at.at zero blank lt) c.after.ensures.run c.after.ensures.key

pub returns-clause-told : goal.returns-clause-told
returns-clause-told c =
    let told = telling.all_told c.args.forest.now.nodes.items c.loop-at.nodes c.args.from c.args.to c.loop-at.run c.loop-at.at c.loop-at.invariant c.loop-at-test.false in
    rw (telling.written c.args.forest.now.nodes.items c.loop-at.nodes c.args.forest.now.nodes.len told.len c.args.forest.now.nodes.ok.0) told
