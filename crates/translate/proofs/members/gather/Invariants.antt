use Rattle.std.proofs.Common.{◌≡◌, ◌≤◌, ◌-◌, true, length}
use Rattle.translate.specs.Passed.{ArePassed}
use Rattle.translate.proofs.members.gather.Given as goal

abbrev pub invariant-loop-number : goal.invariant-loop-number
invariant-loop-number l = record {
  passed : ArePassed l.store l.asked l.at l.numbers.items;
  few : l.is_own ≡ true → length l.numbers.items ≤ l.room;
}

abbrev pub decreases-loop-number : goal.decreases-loop-number
decreases-loop-number l = l.store.numbering.pid_max - l.at
