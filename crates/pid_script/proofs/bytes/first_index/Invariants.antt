use Rattle.std.proofs.Common.{◌≤◌, ◌-◌, length}
use Rattle.pid_script.specs.Reading.{IsFreeOf}
use Rattle.pid_script.proofs.bytes.first_index.Given as goal

abbrev pub invariant-loop-index : goal.invariant-loop-index
invariant-loop-index l = record {
  within : l.index ≤ length l.bytes;
  free : IsFreeOf l.byte l.index l.bytes;
}

abbrev pub decreases-loop-index : goal.decreases-loop-index
decreases-loop-index l = length l.bytes - l.index
