-- One live task less and one zombie more: each subtree weighs as before, so the totals stand
use Rattle.pids_charge.proofs.Words.{None, arith, inl, refl, ◌+◌, ◌-◌, total_at, Node}
use Rattle.pids_charge.proofs.Linked as linked
use Rattle.pids_charge.proofs.Views as views
use Rattle.pids_charge.proofs.Written.{Writes}
use Rattle.pids_charge.proofs.Written as written
use Rattle.pids_charge.proofs.tasks.end_live.Goals as goal
use Rattle.pids_charge.proofs.tasks.end_live.Goals.{After-set_tasks}

-- the node is written
writes : (c : After-set_tasks) → Writes c.args.nodes.now c.set_tasks.new.nodes c.args.home c.node_at-node.result (record c.node_at-node.result { live = c.node_at-node.result.live - 1; zombies = c.node_at-node.result.zombies + 1 })
writes c = record { found = c.node_at-node.ensures; shape = refl; updates = c.set_tasks.ensures c.node_at-node.result c.node_at-node.ensures }

pub overflow_add-zombies : goal.overflow_add-zombies
overflow_add-zombies c = grind (arith, views.field-is, written.own_all)

pub returns : goal.returns
returns c =
    let w = writes (goal.at.returns c).After-set_tasks in
    let own = views.field-is (λ (n : Node). n.live) 0 c.args.nodes.now c.args.home c.node_at-node.result c.node_at-node.ensures in
    let all = written.all-written w in
    record {
      changes = written.changes w refl (λ (n : Node). record n { live = n.live - 1; zombies = n.zombies + 1 }) refl;
      all = omega (arith, all, own, c.requires.some);
      counted = written.IsCounted-written w c.requires.tree c.requires.counted (total_at c.args.counters.now.items) None
          (λ j. grind arith) (inl (written.live_stands c.args.home c.requires.counted c.requires.some))
          (omega (arith, all, own, c.requires.some, c.requires.counted.few));
      linked = linked.linked-written c.args.counters.now.items c.requires.linked c.node_at-node.ensures (c.set_tasks.ensures c.node_at-node.result c.node_at-node.ensures) refl refl;
    }
