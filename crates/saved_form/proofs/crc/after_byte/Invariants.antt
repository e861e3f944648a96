use Rattle.std.proofs.Common.{◌≡◌, ◌-◌}
use Rattle.saved_form.specs.Crc.{bit_steps, byte_step}
use Rattle.saved_form.proofs.crc.after_byte.Given as goal

abbrev pub invariant-loop : goal.invariant-loop
invariant-loop l = bit_steps (8 - l.counter) l.after ≡ byte_step l.register l.byte
