use Rattle.std.proofs.Common.{◌≡◌, ◌+◌, ◌*◌, drop}
use Rattle.std.specs.List.{fold}
use Rattle.std.specs.Int.{w64, bit_not}
use Rattle.saved_form.specs.Crc.{byte_step}
use Rattle.saved_form.proofs.crc.sum_of.Given as goal

abbrev pub invariant-loop-i : goal.invariant-loop-i
invariant-loop-i l = fold byte_step l.register (drop (8 * l.i) l.bytes) ≡ fold byte_step (bit_not w64 l.sum) l.bytes

abbrev pub invariant-loop-byte : goal.invariant-loop-byte
invariant-loop-byte l = fold byte_step l.register (drop (8 * l.whole + l.byte-index) l.bytes) ≡ fold byte_step (bit_not w64 l.sum) l.bytes
