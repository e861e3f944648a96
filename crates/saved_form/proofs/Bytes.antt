-- Eight bytes that come in are one number that comes in.
use Rattle.std.proofs.Common.{◌≡◌, ℕ, suc, ◌+◌, ◌*◌, ◌<◌, ◌≤◌, List, [], ◌∷◌, length, get_or, drop, bit_xor, ap, sym, inl, inr, subst, ◌∙◌, arith}
use Rattle.std.specs.List.{fold}
use Rattle.std.proofs.lemmas.Nat.{xor_comm}
use Rattle.std.proofs.lemmas.Bool.{cases_lt}
use Rattle.std.proofs.lemmas.List.{get_or-take, get_or_past}
use Rattle.std.specs.Int.{w64, from_le_bytes}
use lib.Bits.{xor_assoc, xor_shifted, xor_zero_r}
use Rattle.saved_form.specs.Crc.{bit_steps, byte_step}
use Rattle.saved_form.proofs.Division.{bit_steps-xor, bit_steps-shifted, bit_steps-add}

-- bytes as a number, the low one first
pub number_of : List ℕ → ℕ
number_of [] = 0
number_of (b ∷ bs) = b + 256 * number_of bs

pub fold_bytes : (bs : List ℕ) → ((k : ℕ) → get_or bs k 0 < 256) → (n : ℕ)
    → fold byte_step n bs ≡ bit_steps (8 * length bs) (bit_xor n (number_of bs))
unfolding number_of byte_step bit_steps
fold_bytes [] fits n = sym (xor_zero_r n)
fold_bytes (b ∷ bs) fits n =
    let m : ℕ = number_of bs in
    let high : bit_steps 8 (m * 256) ≡ m = bit_steps-shifted 8 m in
    let whole : bit_xor (bit_xor n b) (m * 256) ≡ bit_xor n (b + 256 * m) =
    xor_assoc n b (m * 256)
    ∙ ap (bit_xor n) (xor_comm b (m * 256) ∙ xor_shifted m 8 b (fits 0) ∙ omega arith) in
    let steps : 8 * suc (length bs) ≡ 8 + 8 * length bs = omega arith in
    fold_bytes bs (λ k. fits (suc k)) (bit_steps 8 (bit_xor n b))
    ∙ ap (bit_steps (8 * length bs))
    (ap (bit_xor (bit_steps 8 (bit_xor n b))) (sym high)
    ∙ sym (bit_steps-xor 8 (bit_xor n b) (m * 256)) ∙ ap (bit_steps 8) whole)
    ∙ sym (ap (λ k. bit_steps k (bit_xor n (b + 256 * m))) steps ∙ bit_steps-add 8 (8 * length bs) (bit_xor n (b + 256 * m)))

-- the first eight bytes come in
pub eight_come_in : (bs : List ℕ) → 8 ≤ length bs → ((k : ℕ) → get_or bs k 0 < 256) → (n : ℕ)
    → fold byte_step n bs ≡ fold byte_step (bit_steps 64 (bit_xor n (from_le_bytes w64 bs))) (drop 8 bs)
unfolding number_of
eight_come_in [] le fits n = absurd (omega arith)
eight_come_in (b0 ∷ []) le fits n = absurd (omega arith)
eight_come_in (b0 ∷ b1 ∷ []) le fits n = absurd (omega arith)
eight_come_in (b0 ∷ b1 ∷ b2 ∷ []) le fits n = absurd (omega arith)
eight_come_in (b0 ∷ b1 ∷ b2 ∷ b3 ∷ []) le fits n = absurd (omega arith)
eight_come_in (b0 ∷ b1 ∷ b2 ∷ b3 ∷ b4 ∷ []) le fits n = absurd (omega arith)
eight_come_in (b0 ∷ b1 ∷ b2 ∷ b3 ∷ b4 ∷ b5 ∷ []) le fits n = absurd (omega arith)
eight_come_in (b0 ∷ b1 ∷ b2 ∷ b3 ∷ b4 ∷ b5 ∷ b6 ∷ []) le fits n = absurd (omega arith)
eight_come_in (b0 ∷ b1 ∷ b2 ∷ b3 ∷ b4 ∷ b5 ∷ b6 ∷ b7 ∷ bs) le fits n =
    let eight : List ℕ = b0 ∷ b1 ∷ b2 ∷ b3 ∷ b4 ∷ b5 ∷ b6 ∷ b7 ∷ [] in
    let each : (k : ℕ) → get_or eight k 0 < 256 = λ k. elim (cases_lt k 8)
    [ inl lt ↦ subst (λ m. m < 256) (sym (get_or-take 8 (b0 ∷ b1 ∷ b2 ∷ b3 ∷ b4 ∷ b5 ∷ b6 ∷ b7 ∷ bs) k 0 lt)) (fits k) | inr ge ↦ rw (get_or_past eight k 0 ge) (omega arith) ] in
    let word : number_of eight ≡ from_le_bytes w64 eight = omega arith in
    ap (λ m. fold byte_step m bs) (fold_bytes eight each n ∙ ap (λ m. bit_steps 64 (bit_xor n m)) word)
