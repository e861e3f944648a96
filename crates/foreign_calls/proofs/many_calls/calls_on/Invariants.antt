use Rattle.std.proofs.Common.{◌≡◌, ◌+◌, ◌<◌, ◌≤◌, length, take, drop}
use Rattle.kept_table.specs.Chronicle.{total}
use Rattle.foreign_calls.specs.Records.{memoryless}
use Rattle.foreign_calls.specs.Replays.{ReplaysSaved, WaitsAfter}
use Rattle.foreign_calls.specs.Turns.{turns}
use Rattle.foreign_calls.proofs.many_calls.calls_on.Given as goal

abbrev pub invariant-loop-i : goal.invariant-loop-i
invariant-loop-i l = record {
  left : ReplaysSaved (memoryless l.fn.held) (take l.i (turns l.worker l.calls l.replies)) (memoryless l.held);
  waits : WaitsAfter l.i l.fn.held l.held;
  behind : drop l.i l.replies ≡ drop l.i l.initial.replies;
  known : l.worker < length l.held.cut;
  room : l.fn.held.memory.room ≤ l.held.memory.room + l.i;
  place : 0 < l.i → l.ordinal + 1 ≡ total l.held;
  no_place : l.i ≡ 0 → l.ordinal ≡ l.initial.ordinal;
}
