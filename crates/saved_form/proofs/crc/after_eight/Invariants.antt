use Rattle.std.proofs.Common.{◌≡◌, ◌*◌, ◌%◌, ◌^◌}
use Rattle.saved_form.specs.Crc.{bit_steps}
use Rattle.saved_form.proofs.crc.after_eight.Given as goal

abbrev pub invariant-loop-place : goal.invariant-loop-place
invariant-loop-place l = l.after ≡ bit_steps 64 (l.register % 2 ^ (4 * l.place))
