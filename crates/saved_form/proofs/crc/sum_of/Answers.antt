use Rattle.std.proofs.Common.{◌≡◌, ℕ, ◌+◌, ◌-◌, ◌*◌, ◌/◌, ◌^◌, ◌<◌, ◌≤◌, List, length, drop, get_or, refl, ap, sym, subst, ◌∙◌, arith, bit_xor}
use Rattle.std.specs.List.{fold}
use Rattle.std.proofs.lemmas.List.Sums.{fold-append}
use Rattle.std.proofs.lemmas.List.{drop-drop, drop_all, get_or-drop, length-drop, length-take}
use Rattle.std.specs.Int.{w64, bit_not}
use Rattle.saved_form.specs.Crc.{bit_step, bit_steps, byte_step, crc64}
use Rattle.std.specs.Int.{w64, from_le_bytes}
use Rattle.saved_form.proofs.Bytes.{eight_come_in}
use Rattle.saved_form.proofs.crc.sum_of.Goals as goal

pub loop-i-preserved : goal.loop-i-preserved
loop-i-preserved c =
    let bytes : List ℕ = c.args.bytes.now in
    let at : ℕ = 8 * c.loop-i.i in
    let n : ℕ = c.loop-i.register in
    let room : 8 ≤ length (drop at bytes) = omega (arith, length-drop at bytes) in
    let fits : (k : ℕ) → get_or (drop at bytes) k 0 < 256 =
    λ k. subst (λ m. m < 256) (sym (get_or-drop at bytes k 0)) (omega (arith, c.type_inv.bytes (at + k))) in
    let next : at + 8 ≡ 8 * (c.loop-i.i + 1) = omega arith in
    (λ i. fold byte_step (c.after_eight-register.ensures i) (drop (sym next i) bytes))
    ∙ ap (λ m. fold byte_step (bit_steps 64 (bit_xor n m)) (drop (at + 8) bytes)) c.eight_at.ensures
    ∙ sym (eight_come_in (drop at bytes) room fits n ∙ ap (fold byte_step (bit_steps 64 (bit_xor n (from_le_bytes w64 (drop at bytes))))) (drop-drop 8 at bytes))
    ∙ c.loop-i.invariant

-- the register once all bytes have come in
all_in : (n : ℕ) (register : ℕ) (bytes : List ℕ) (at : ℕ) → length bytes ≤ at
    → fold byte_step register (drop at bytes) ≡ n → register ≡ n
all_in n register bytes at end is = sym (ap (fold byte_step register) (drop_all at bytes end)) ∙ is

turned : (register : ℕ) → register < 2 ^ 64 → bit_not w64 (bit_not w64 register) ≡ register
turned register fits = omega arith

pub returns-clause-value : goal.returns-clause-value
unfolding crc64
returns-clause-value c =
    let bytes : List ℕ = c.args.bytes.now in
    let from : ℕ = 8 * (length bytes / 8) in
    let at : ℕ = from + c.loop-byte.byte-index in
    let end : length bytes ≤ at = omega (arith, c.loop-byte-test.false, length-take (length bytes - from) (drop from bytes), length-drop from bytes) in
    ap (bit_not w64) (all_in (fold byte_step (bit_not w64 c.args.sum) bytes) c.loop-byte.register bytes at end c.loop-byte.invariant)

pub returns-clause-goes_on : goal.returns-clause-goes_on
unfolding crc64
returns-clause-goes_on c more =
    let bytes : List ℕ = c.args.bytes.now in
    let from : ℕ = 8 * (length bytes / 8) in
    let at : ℕ = from + c.loop-byte.byte-index in
    let end : length bytes ≤ at = omega (arith, c.loop-byte-test.false, length-take (length bytes - from) (drop from bytes), length-drop from bytes) in
    let register : c.loop-byte.register ≡ fold byte_step (bit_not w64 c.args.sum) bytes =
    all_in (fold byte_step (bit_not w64 c.args.sum) bytes) c.loop-byte.register bytes at end c.loop-byte.invariant in
    ap (λ n. bit_not w64 (fold byte_step n more)) (turned c.loop-byte.register (omega arith) ∙ register)
    ∙ ap (bit_not w64) (sym (fold-append byte_step (bit_not w64 c.args.sum) bytes more))

pub returns-clause-check_value : goal.returns-clause-check_value
unfolding crc64 byte_step bit_steps bit_step
returns-clause-check_value c = refl
