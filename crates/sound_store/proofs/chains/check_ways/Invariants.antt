use Rattle.std.proofs.Common.{ℕ, ◌<◌}
use Rattle.sound_store.specs.Ways.{AreReached, HasWayAt}
use Rattle.sound_store.proofs.chains.check_ways.Given as goal

abbrev pub invariant-loop-place : goal.invariant-loop-place
invariant-loop-place l = record {
  done : (k : ℕ) → k < l.place → HasWayAt l.store k;
  marked : AreReached l.store l.known;
}
