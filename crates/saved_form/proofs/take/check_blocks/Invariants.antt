use Rattle.std.proofs.Common.{◌≡◌}
use Rattle.saved_form.specs.Form.{sum_behind}
use Rattle.saved_form.specs.Taking.{bodies, AreRight}
use Rattle.saved_form.proofs.take.check_blocks.Given as goal

abbrev pub invariant-loop-place : goal.invariant-loop-place
invariant-loop-place l = record {
  right : AreRight l.place l.sum l.bytes;
  behind : l.behind ≡ sum_behind l.sum (bodies l.place l.bytes);
}
