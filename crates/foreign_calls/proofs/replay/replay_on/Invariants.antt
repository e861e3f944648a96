use Rattle.std.proofs.Common.{take, ◌≤◌, ◌+◌}
use Rattle.foreign_calls.specs.Records.{memoryless}
use Rattle.foreign_calls.specs.Replays.{ReplaysSaved, WaitsAfter}
use Rattle.foreign_calls.proofs.replay.replay_on.Given as goal

abbrev pub invariant-loop-i : goal.invariant-loop-i
invariant-loop-i l = record {
  left : ReplaysSaved (memoryless l.fn.held) (take l.i l.saved) (memoryless l.held);
  waits : WaitsAfter l.i l.fn.held l.held;
  room : l.fn.held.memory.room ≤ l.held.memory.room + l.i;
}
