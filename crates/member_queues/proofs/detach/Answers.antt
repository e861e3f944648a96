-- Owners change before the runs are joined: all members are told at once, and no rank of one owner is one of the other's
use Rattle.std.proofs.Common.{◌≡◌, ℕ, List, arith}
use Rattle.member_queues.specs.declared.Node.{Node}
use Rattle.member_queues.specs.Heap.{root_at}
use Rattle.member_queues.proofs.Trees as trees
use Rattle.member_queues.proofs.Telling as telling
use Rattle.member_queues.proofs.detach.Goals as goal

pub returns-clause-heap : goal.returns-clause-heap
returns-clause-heap c =
    let rs : List ℕ = c.args.forest.now.roots.items in
    let ns : List Node = c.args.forest.now.nodes.items in
    let is : root_at rs c.args.from ≡ c.index-root.result.now = trees.root_is rs c.args.from c.index-root.result.now c.requires.from c.index-root.ensures in
    rw (c.tell_owner.ensures.roots, ← is) (telling.IsHeap-told rs ns c.tell_owner.new.forest.nodes.items c.args.from c.args.to c.requires.heap c.requires.differ c.requires.from c.requires.to c.tell_owner.ensures.told c.requires.apart)

pub returns-clause-top : goal.returns-clause-top
returns-clause-top c = grind (arith, trees.root_is, telling.top-told)

pub returns-clause-members : goal.returns-clause-members
returns-clause-members c =
    let rs : List ℕ = c.args.forest.now.roots.items in
    let ns : List Node = c.args.forest.now.nodes.items in
    telling.ranked-told rs ns c.tell_owner.new.forest.nodes.items c.args.from c.args.to c.requires.heap c.requires.differ c.requires.from c.requires.to c.tell_owner.ensures.told c.requires.apart
