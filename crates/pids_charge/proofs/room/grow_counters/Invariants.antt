use Rattle.pids_charge.proofs.Words.{length, ℕ, ◌+◌, ◌-◌, ◌≡◌, ◌≤◌, counter_at}
use Rattle.pids_charge.proofs.room.grow_counters.Given as goal

abbrev pub invariant-loop-counters : goal.invariant-loop-counters
invariant-loop-counters l = record {
  same : (k : ℕ) → counter_at l.counters.items k ≡ counter_at l.initial.counters.items k;
  longer : length l.initial.counters.items ≤ length l.counters.items;
}

abbrev pub decreases-loop-counters : goal.decreases-loop-counters
decreases-loop-counters l = l.key + 1 - length l.counters.items
