use Rattle.std.proofs.Common.{◌≡◌, ◌+◌, ◌<◌, ◌≤◌, ℕ, slice_get}
use Rattle.foreign_calls.specs.Entries.{TellsEntry}
use Rattle.foreign_calls.proofs.read.read_on.Given as goal

abbrev pub invariant-loop-i : goal.invariant-loop-i
invariant-loop-i l = record {
  told : (k : ℕ) → k < l.i → TellsEntry l.held (l.from + k) (slice_get l.entries k);
  behind : (k : ℕ) → l.i ≤ k → slice_get l.entries k ≡ slice_get l.initial.entries k;
}
