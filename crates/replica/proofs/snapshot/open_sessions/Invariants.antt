use Rattle.std.proofs.Common.{◌≡◌, ◌-◌, [], length}
use Rattle.replica.specs.HeadReading.{opened_more}
use Rattle.replica.proofs.snapshot.open_sessions.Given as goal

-- those that are open and those that are left come to all
abbrev pub invariant-loop : goal.invariant-loop
invariant-loop l = record {
  more : opened_more (l.count - l.counter) l.sessions l.rest ≡ opened_more l.count [] l.lines;
  number : length l.sessions ≡ l.counter;
}
