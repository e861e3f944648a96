use Rattle.std.proofs.Common.{◌≡◌}
use Rattle.task_table.specs.Store.{IsLess, all_threads}
use Rattle.thread_ends.specs.Ending.{KeepsHomes}
use Rattle.thread_ends.proofs.OneProcess.{HaveEnded}
use Rattle.thread_ends.proofs.others.end_others.Given as goal

abbrev pub invariant-loop-key : goal.invariant-loop-key
invariant-loop-key l = record {
  ended : HaveEnded l.process l.initial.store.threads l.store.threads;
  left : l.store.threads.left ≡ l.initial.store.threads.left;
  numbers : IsLess l.initial.store.numbering l.store.numbering;
  homes : KeepsHomes l.initial.store.charges l.store.charges;
  tree : l.store.tree ≡ l.initial.store.tree;
  members : l.store.members ≡ l.initial.store.members;
}

abbrev pub decreases-loop-key : goal.decreases-loop-key
decreases-loop-key l = all_threads l.store.threads
