use Rattle.std.proofs.Common.{◌≡◌, ◌-◌, ◌≤◌, ℕ}
use Rattle.task_table.specs.Store.{IsLess}
use Rattle.thread_ends.specs.Ending.{EndsProcesses, KeepsHomes}
use Rattle.ns_teardown.specs.Fall.{is_passed, slot_at, slot_midway}
use Rattle.ns_teardown.proofs.members.end_members.Given as goal

abbrev pub invariant-loop-number : goal.invariant-loop-number
invariant-loop-number l = record {
  slots : (k : ℕ) → slot_at l.store k ≡ slot_midway l.initial.store l.space l.init l.status l.from k;
  numbers : IsLess l.initial.store.numbering l.store.numbering;
  homes : KeepsHomes l.initial.store.charges l.store.charges;
  threads : EndsProcesses (is_passed l.initial.store.numbering l.space l.from) l.initial.store.threads l.store.threads;
  below : l.from ≤ l.initial.store.numbering.pid_max;
}

abbrev pub decreases-loop-number : goal.decreases-loop-number
decreases-loop-number l = l.initial.store.numbering.pid_max - l.from
