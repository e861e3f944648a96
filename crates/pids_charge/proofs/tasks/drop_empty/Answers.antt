-- The walk ends at a node that stands or has a task below it; each node that it drops has neither, so nothing is below it
use Rattle.pids_charge.proofs.Words.{None, ap, arith, inl, inr, ◌∙◌, ◌≡◌, get_or_read, total_at, Counter}
use Rattle.pids_charge.proofs.Linked as linked
use Rattle.pids_charge.proofs.Leaves.{Visits}
use Rattle.pids_charge.proofs.Leaves as leaves
use Rattle.pids_charge.proofs.tasks.drop_empty.Goals as goal
use Rattle.pids_charge.proofs.tasks.drop_empty.Goals.{After-node_at-node}
use Rattle.pids_charge.proofs.tasks.drop_empty.Goals.{then-node-via-then-node, then-node-via-else-node+then-index-gt0}

-- the node that the walk has come to
visits : (c : After-node_at-node) → Visits c.loop-at.nodes (total_at c.args.counters.now.items) c.loop-at.at c.in-Some.key c.node_at-node.result
visits c = record { tree = c.loop-at.invariant.tree; counted = c.loop-at.invariant.counted; is = c.in-Some.is; found = c.node_at-node.ensures }

pub returns-then-node-clause-counted : goal.returns-then-node-clause-counted
returns-then-node-clause-counted c =
    let w = c.loop-at.invariant in
    let v = visits (goal.at.returns-then-node-clause-counted c).After-node_at-node in
    elim c.then-node.branch [
      | then-node-via-then-node b ↦
          leaves.settled v (inl b.if-node.true)
      | then-node-via-else-node+then-index-gt0 b ↦
          let room = (w.linked c.in-Some.key (w.here c.in-Some.key c.in-Some.is)).room in
          let read = get_or_read c.args.counters.now.items c.in-Some.key b.index.result.now room b.index.ensures (record { total = 0; limit = None; parent = None }) in
          leaves.settled v (inr (let r = ap (λ (x : Counter). x.total) read in omega (arith, r, b.if-index-gt0.true)))
    ]

pub loop-at-smaller : goal.loop-at-smaller
loop-at-smaller c =
    let w = c.loop-at.invariant in
    let v = visits (goal.at.loop-at-smaller c).After-node_at-node in
    let room = (w.linked c.in-Some.key (w.here c.in-Some.key c.in-Some.is)).room in
    let read = get_or_read c.args.counters.now.items c.in-Some.key c.index.result.now room c.index.ensures (record { total = 0; limit = None; parent = None }) in
    leaves.next_lower v c.if-node.false
    (let r = ap (λ (x : Counter). x.total) read in omega (arith, r, c.if-index-gt0.false)) c.try_remove.new.self c.try_remove.ensures.updates

pub loop-at-preserved : goal.loop-at-preserved
loop-at-preserved c =
    let w = c.loop-at.invariant in
    let v = visits (goal.at.loop-at-preserved c).After-node_at-node in
    let room = (w.linked c.in-Some.key (w.here c.in-Some.key c.in-Some.is)).room in
    let read = get_or_read c.args.counters.now.items c.in-Some.key c.index.result.now room c.index.ensures (record { total = 0; limit = None; parent = None }) in
    let none : total_at c.args.counters.now.items c.in-Some.key ≡ 0 = let r = ap (λ (x : Counter). x.total) read in omega (arith, r, c.if-index-gt0.false) in
    record {
      here = leaves.next_there v c.if-node.false none c.try_remove.new.self c.try_remove.ensures.updates;
      all = leaves.all-dropped v c.if-node.false none c.try_remove.new.self c.try_remove.ensures.updates ∙ w.all;
      drops = leaves.drops v c.if-node.false none c.try_remove.new.self c.try_remove.ensures.updates c.args.nodes.now w.drops;
      tree = leaves.IsTree-dropped v c.if-node.false none c.try_remove.new.self c.try_remove.ensures.updates;
      counted = leaves.IsCounted-dropped v c.if-node.false none c.try_remove.new.self c.try_remove.ensures.updates;
      linked = linked.linked-dropped c.loop-at.nodes c.try_remove.new.self c.args.counters.now.items w.linked c.in-Some.key c.try_remove.ensures.updates;
    }
