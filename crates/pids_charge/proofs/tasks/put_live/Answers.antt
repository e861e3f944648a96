-- The subtrees that the node is in weigh one more, and the walk raises just their totals
use Rattle.pids_charge.proofs.Words.{None, arith, inl, refl, ◌+◌, total_at, Node}
use Rattle.pids_charge.proofs.Linked as linked
use Rattle.pids_charge.proofs.Views as views
use Rattle.pids_charge.proofs.Written.{Writes}
use Rattle.pids_charge.proofs.Written as written
use Rattle.pids_charge.proofs.tasks.put_live.Goals as goal
use Rattle.pids_charge.proofs.tasks.put_live.Goals.{After-set_tasks}

-- the node is written
writes : (c : After-set_tasks) → Writes c.args.nodes.now c.set_tasks.new.nodes c.args.home c.node_at-node.result (record c.node_at-node.result { live = c.node_at-node.result.live + 1 })
writes c = record { found = c.node_at-node.ensures; shape = refl; updates = c.set_tasks.ensures c.node_at-node.result c.node_at-node.ensures }

pub node_at-node-requires : goal.node_at-node-requires
node_at-node-requires c = views.there c.args.nodes.now c.args.home c.requires.stands

pub overflow_add-live : goal.overflow_add-live
overflow_add-live c = omega (arith, c.requires.few, written.own_all c.args.nodes.now c.args.home c.node_at-node.result c.node_at-node.ensures)

pub raise-requires-clause-few : goal.raise-requires-clause-few
raise-requires-clause-few c = written.has_room (writes (goal.at.raise-requires-clause-few c).After-set_tasks) c.requires.tree c.requires.counted c.requires.few

pub raise-requires-clause-linked : goal.raise-requires-clause-linked
raise-requires-clause-linked c = linked.linked-written c.args.counters.now.items c.requires.linked c.node_at-node.ensures (c.set_tasks.ensures c.node_at-node.result c.node_at-node.ensures) refl refl

pub returns : goal.returns
returns c =
    let w = writes (goal.at.returns c).After-set_tasks in
    let all = written.all-written w in
    record {
      changes = written.changes w refl (λ (n : Node). record n { live = n.live + 1 }) refl;
      all = omega (arith, all);
      counted = written.IsCounted-written w c.requires.tree c.requires.counted (total_at c.raise.new.counters.items) None
          (λ j. grind (arith, c.raise.ensures.totals j)) (inl c.requires.stands) (omega (arith, all, c.requires.few));
      linked = c.raise.ensures.linked;
    }
