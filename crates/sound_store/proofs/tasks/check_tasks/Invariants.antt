use Rattle.std.proofs.Common.{ℕ, ◌<◌}
use Rattle.sound_store.specs.Tasks.{IsGoodAt}
use Rattle.sound_store.proofs.tasks.check_tasks.Given as goal

abbrev pub invariant-loop-place : goal.invariant-loop-place
invariant-loop-place l = (k : ℕ) → k < l.place → IsGoodAt l.store k
