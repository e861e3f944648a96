use Rattle.std.proofs.Common.{◌≡◌, ◌≢◌, ℕ, Some, arith}
use Rattle.std.proofs.lemmas.Grind.{common_steps}
use Rattle.task_tree.specs.Tree.{parent_of}
use Rattle.task_table.proofs.Changes.{in_range}
use Rattle.ns_teardown.proofs.NewParents as parents
use Rattle.ns_teardown.proofs.teardown.hand_children.Goals as goal

pub returns-then-is_none-clause-parents : goal.returns-then-is_none-clause-parents
returns-then-is_none-clause-parents c =
    let heir = parents.heir_of c.args.store.now c.laws.ensures c.requires.good c.args.key c.requires.live in
    let first = rw c.tree.ensures at c.first_child.ensures in
    let childless : (k : ℕ) → parent_of c.args.store.now.tree k ≢ Some c.args.key = parents.none_found (λ k. parent_of c.args.store.now.tree k ≡ Some c.args.key) c.first_child.result c.if-is_none.ensures first in
    (heir.0, heir.1, λ k. parents.handed-other c.args.key heir.0 (parent_of c.args.store.now.tree k) (childless k))

pub hand_on-requires-clause-differ : goal.hand_on-requires-clause-differ
hand_on-requires-clause-differ c =
    (parents.heir-beside c.args.store.now c.laws.ensures c.requires.good c.args.key c.new_parent-heir.result c.requires.live c.requires.inner c.new_parent-heir.ensures).0

pub hand_on-requires-clause-to : goal.hand_on-requires-clause-to
hand_on-requires-clause-to c =
    in_range c.args.store.now.tree.tasks c.new_parent-heir.result
    (parents.heir-beside c.args.store.now c.laws.ensures c.requires.good c.args.key c.new_parent-heir.result c.requires.live c.requires.inner c.new_parent-heir.ensures).1

pub hand_on-requires-clause-from : goal.hand_on-requires-clause-from
hand_on-requires-clause-from c = grind arith

pub first_child-requires : goal.first_child-requires
first_child-requires c = grind (arith, common_steps)

pub hand_on-requires-clause-beside : goal.hand_on-requires-clause-beside
hand_on-requires-clause-beside c =
    let r = (parents.heir-beside c.args.store.now c.laws.ensures c.requires.good c.args.key c.new_parent-heir.result c.requires.live c.requires.inner c.new_parent-heir.ensures) in
    (r.2, r.3, r.4, r.5, r.6)
