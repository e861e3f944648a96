use Rattle.std.proofs.Common.{◌≡◌, ℕ, ◌*◌, ◌%◌, ◌^◌, refl, ap, sym, ◌∙◌, arith, bit_xor}
use Rattle.saved_form.specs.Crc.{bit_step, bit_steps}
use Rattle.saved_form.specs.Crc.{nibble}
use Rattle.saved_form.proofs.Division.{bit_steps-xor, nibble_more}
use Rattle.saved_form.proofs.crc.after_eight.Goals as goal

nothing_out : bit_steps 64 0 ≡ 0
unfolding bit_steps bit_step
nothing_out = refl

pub loop-place-init : goal.loop-place-init
loop-place-init c =
    let none : c.args.register % 1 ≡ 0 = omega arith in
    sym (ap (bit_steps 64) none ∙ nothing_out)

pub loop-place-preserved : goal.loop-place-preserved
loop-place-preserved c =
    let n : ℕ = c.args.register in
    let place : ℕ = c.loop-place.place in
    (λ i. bit_xor (c.loop-place.invariant i) (c.of_nibble-after.ensures i))
    ∙ sym (bit_steps-xor 64 (n % 2 ^ (4 * place)) (nibble place n))
    ∙ ap (bit_steps 64) (nibble_more place n)
