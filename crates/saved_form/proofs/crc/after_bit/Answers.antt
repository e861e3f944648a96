use Rattle.std.proofs.Common.{◌≡◌, ℕ, ◌*◌, ◌/◌, ◌%◌, ap, sym, ◌∙◌, arith, bit_xor}
use lib.Bits.{xor_zero_r}
use Rattle.saved_form.proofs.Division.{bit_step_is}
use Rattle.saved_form.proofs.crc.after_bit.Goals as goal

pub returns-then-register-eq1 : goal.returns-then-register-eq1
returns-then-register-eq1 c =
    let n : ℕ = c.args.register in
    sym (bit_step_is n ∙ ap (λ b. bit_xor (n / 2) (b * 0xc96c5795d7870f42)) c.if-register-eq1.true)

pub returns-else-register-eq1 : goal.returns-else-register-eq1
returns-else-register-eq1 c =
    let n : ℕ = c.args.register in
    let even : n % 2 ≡ 0 = omega arith in
    sym (bit_step_is n ∙ ap (λ b. bit_xor (n / 2) (b * 0xc96c5795d7870f42)) even ∙ xor_zero_r (n / 2))
