use Rattle.std.proofs.Common.{◌≡◌, ℕ, suc, ◌+◌, ◌-◌, refl, ap, sym, ◌∙◌, arith}
use Rattle.saved_form.specs.Crc.{bit_step, bit_steps, byte_step}
use Rattle.saved_form.proofs.crc.after_byte.Goals as goal

pub loop-init : goal.loop-init
unfolding byte_step
loop-init c = refl

one_out : (m n : ℕ) → bit_steps (suc m) n ≡ bit_steps m (bit_step n)
unfolding bit_steps
one_out m n = refl

none_out : (n : ℕ) → bit_steps 0 n ≡ n
unfolding bit_steps
none_out n = refl

pub loop-preserved : goal.loop-preserved
loop-preserved c =
    let k : ℕ = c.loop.counter in
    let left : 8 - k ≡ suc (8 - (k + 1)) = omega arith in
    ap (bit_steps (8 - (k + 1))) c.after_bit-after.ensures
    ∙ sym (ap (λ m. bit_steps m c.loop.after) left ∙ one_out (8 - (k + 1)) c.loop.after)
    ∙ c.loop.invariant

pub returns : goal.returns
returns c =
    let none : 8 - c.loop.counter ≡ 0 = omega arith in
    sym (ap (λ m. bit_steps m c.loop.after) none ∙ none_out c.loop.after) ∙ c.loop.invariant
