-- The table is held against the definition at each of its 256 places, by computing.
use Rattle.std.proofs.Common.{◌≡◌, ℕ, ◌+◌, ◌*◌, ◌/◌, ◌%◌, ◌^◌, ◌<◌, true, List, get_or, bit_and, refl, ap, arith, ◌∙◌}
use Rattle.std.proofs.lemmas.Nat.{and_mask}
use Rattle.saved_form.specs.declared.crc.TheConstants.{OF_BITS}
use Rattle.saved_form.specs.Crc.{bit_step, bit_steps}
use Rattle.saved_form.specs.Crc.{nibble}
use Rattle.saved_form.proofs.Agree.{agree_below, agree_at}
use Rattle.saved_form.proofs.crc.of_nibble.Goals as goal

-- what stands at a place of the table
of_place : ℕ → ℕ
of_place k = bit_steps 64 (k % 16 * 2 ^ (4 * (k / 16)))

from_table : (table : List ℕ) → agree_below (λ k. get_or table k 0) of_place 256 ≡ true
    → (place n : ℕ) → place < 16 → get_or table (16 * place + bit_and (n / 2 ^ (4 * place)) 15) 0 ≡ bit_steps 64 (nibble place n)
unfolding of_place nibble
from_table table agree place n lt =
    let m : ℕ = n / 2 ^ (4 * place) % 16 in
    let k : ℕ = 16 * place + m in
    let low : bit_and (n / 2 ^ (4 * place)) 15 ≡ m = and_mask (n / 2 ^ (4 * place)) 4 in
    let rest : k % 16 ≡ m = omega arith in
    let row : k / 16 ≡ place = omega arith in
    ap (λ i. get_or table (16 * place + i) 0) low
    ∙ agree_at (λ i. get_or table i 0) of_place 256 agree k (omega arith)
    ∙ (λ i. bit_steps 64 (rest i * 2 ^ (4 * row i)))

pub returns : goal.returns
unfolding of_place agree_below bit_steps bit_step
returns c = from_table OF_BITS refl c.args.place c.args.register (omega arith)
