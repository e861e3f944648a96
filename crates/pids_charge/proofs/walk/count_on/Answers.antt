-- The counter at the node changes, and keeps its limit and its parent
use Rattle.pids_charge.proofs.Words.{None, ap, ◌+◌, ◌∙◌, get_or_read, Counter}
use Rattle.pids_charge.proofs.Climbs as climbs
use Rattle.pids_charge.proofs.Linked as linked
use Rattle.pids_charge.proofs.walk.count_on.Goals as goal

pub returns : goal.returns
returns c =
    let a = c.args.key in
    let on = c.requires.linked a c.requires.there in
    let read = get_or_read c.args.counters.now.items a c.index_mut-counter.result.now on.room c.index_mut-counter.ensures.value (record { total = 0; limit = None; parent = None }) in
    record {
      up = ap (λ (x : Counter). x.parent) read ∙ on.parent;
      totals = λ k. climbs.set-plus c.args.counters.now.items c.args.key k c.index_mut-counter.result.now on.room read;
      linked = linked.linked-counted c.args.counters.now.items a (record c.index_mut-counter.result.now { total = c.index_mut-counter.result.now.total + 1 }) on.room c.args._nodes.now c.requires.linked
          (ap (λ (x : Counter). x.limit) read) (ap (λ (x : Counter). x.parent) read);
    }
