-- One node is written, and then the other; the totals follow at once
use Rattle.pids_charge.proofs.Words.{arith, refl, subst, sym, ◌+◌, ◌-◌, ◌<◌, ◌∙◌, total_at, HasLevels, Node, TreeOfNodes}
use Rattle.pids_charge.proofs.Linked as linked
use Rattle.pids_charge.proofs.Moved as moved
use Rattle.pids_charge.proofs.Views as views
use Rattle.pids_charge.proofs.Written.{Writes}
use Rattle.pids_charge.proofs.Written as written
use Rattle.pids_charge.proofs.tasks.move_live.Goals as goal
use Rattle.pids_charge.proofs.tasks.move_live.Goals.{After-set_tasks, After-set_tasks-2}

leaves : (c : After-set_tasks) → Writes c.args.nodes.now c.set_tasks.new.nodes c.args.from c.node_at-left.result (moved.one_less c.node_at-left.result)
leaves c = record { found = c.node_at-left.ensures; shape = refl; updates = c.set_tasks.ensures c.node_at-left.result c.node_at-left.ensures }

joins : (c : After-set_tasks-2) → Writes c.set_tasks.new.nodes c.set_tasks-2.new.nodes c.args.to c.node_at-joined.result (moved.one_more c.node_at-joined.result)
joins c = record { found = c.node_at-joined.ensures; shape = refl; updates = c.set_tasks-2.ensures c.node_at-joined.result c.node_at-joined.ensures }

pub overflow_add-live : goal.overflow_add-live
overflow_add-live c =
    let w = leaves (goal.at.overflow_add-live c).After-set_tasks in
    let own = views.field-is (λ (n : Node). n.live) 0 c.args.nodes.now c.args.from c.node_at-left.result c.node_at-left.ensures in
    omega (arith, written.all-written w, own, c.requires.some, c.requires.counted.few, written.own_all c.set_tasks.new.nodes c.args.to c.node_at-joined.result c.node_at-joined.ensures)

pub shift-requires-clause-levels : goal.shift-requires-clause-levels
shift-requires-clause-levels c =
    subst (λ (t : TreeOfNodes). HasLevels t) (sym (written.tree-same (joins (goal.at.shift-requires-clause-levels c).After-set_tasks-2) ∙ written.tree-same (leaves (goal.at.shift-requires-clause-levels c).After-set_tasks))) c.requires.tree.levels

pub shift-requires-clause-linked : goal.shift-requires-clause-linked
shift-requires-clause-linked c =
    linked.linked-written c.args.counters.now.items
    (linked.linked-written c.args.counters.now.items c.requires.linked c.node_at-left.ensures (c.set_tasks.ensures c.node_at-left.result c.node_at-left.ensures) refl refl)
    c.node_at-joined.ensures (c.set_tasks-2.ensures c.node_at-joined.result c.node_at-joined.ensures) refl refl

pub shift-requires-clause-some : goal.shift-requires-clause-some
shift-requires-clause-some c =
    let own = views.field-is (λ (n : Node). n.live) 0 c.args.nodes.now c.args.from c.node_at-left.result c.node_at-left.ensures in
    moved.shift_some (leaves (goal.at.shift-requires-clause-some c).After-set_tasks) (joins (goal.at.shift-requires-clause-some c).After-set_tasks-2) (omega (arith, own, c.requires.some))
    c.requires.tree c.requires.counted (written.live_stands c.args.from c.requires.counted c.requires.some)

pub shift-requires-clause-few : goal.shift-requires-clause-few
shift-requires-clause-few c =
    let own = views.field-is (λ (n : Node). n.live) 0 c.args.nodes.now c.args.from c.node_at-left.result c.node_at-left.ensures in
    moved.shift_few (leaves (goal.at.shift-requires-clause-few c).After-set_tasks) (joins (goal.at.shift-requires-clause-few c).After-set_tasks-2) (omega (arith, own, c.requires.some))
    c.requires.tree c.requires.counted (written.live_stands c.args.from c.requires.counted c.requires.some)

pub returns : goal.returns
returns c =
    let w = leaves (goal.at.returns c).After-set_tasks in
    let v = joins (goal.at.returns c).After-set_tasks-2 in
    let own = views.field-is (λ (n : Node). n.live) 0 c.args.nodes.now c.args.from c.node_at-left.result c.node_at-left.ensures in
    let some : 0 < c.node_at-left.result.live = omega (arith, own, c.requires.some) in
    let stands = written.live_stands c.args.from c.requires.counted c.requires.some in
    record {
      moves = record {
        mid = c.set_tasks.new.nodes;
        leaves = written.changes w refl (λ (n : Node). record n { live = n.live - 1 }) refl;
        joins = written.changes v refl (λ (n : Node). record n { live = n.live + 1 }) refl;
      };
      all = moved.same_all w v some c.requires.tree c.requires.counted stands;
      counted = moved.moved_totals w v some c.requires.tree c.requires.counted stands (total_at c.shift.new.counters.items) c.shift.ensures.totals c.requires.stands;
      linked = c.shift.ensures.linked;
    }
