use Rattle.std.proofs.Common.{◌≡◌, ℕ, ◌<◌, get_or}
use Rattle.test_public.proofs.records.are_in_order.Given as goal

abbrev pub invariant-loop-worker : goal.invariant-loop-worker
invariant-loop-worker g l = (w : ℕ) (d : _) → w < l.worker → (get_or l.seats w d).worker ≡ w
