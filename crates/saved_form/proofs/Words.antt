-- Numbers in the first bytes of a list.
use Rattle.std.proofs.Common.{◌≡◌, ℕ, zero, suc, ◌*◌, ◌<◌, ◌≤◌, ◌^◌, List, [], ◌∷◌, ◌++◌, length, take, drop, get_or, refl, ap, sym, inl, inr, subst, ◌∙◌, arith}
use Rattle.std.specs.Int.{w32, w64, from_le_bytes}
use Rattle.std.proofs.lemmas.Bool.{cases_lt}
use Rattle.std.proofs.lemmas.List.{get_or-take, get_or_past, length-take-le}
use Rattle.std.proofs.lemmas.Nat.{le_bytes_8, from_le_bytes-to_le_bytes_8, from_le_bytes-to_le_bytes_4}
use Rattle.saved_form.specs.Form.{eight, fours}

-- only the first eight bytes count
word_of_eight : (xs : List ℕ) → from_le_bytes w64 (take 8 xs) ≡ from_le_bytes w64 xs
word_of_eight [] = refl
word_of_eight (a ∷ []) = refl
word_of_eight (a ∷ b ∷ []) = refl
word_of_eight (a ∷ b ∷ c ∷ []) = refl
word_of_eight (a ∷ b ∷ c ∷ d ∷ []) = refl
word_of_eight (a ∷ b ∷ c ∷ d ∷ e ∷ []) = refl
word_of_eight (a ∷ b ∷ c ∷ d ∷ e ∷ f ∷ []) = refl
word_of_eight (a ∷ b ∷ c ∷ d ∷ e ∷ f ∷ g ∷ []) = refl
word_of_eight (a ∷ b ∷ c ∷ d ∷ e ∷ f ∷ g ∷ h ∷ xs) = refl

-- the bytes that are read as a number are those that are written of it
pub eight_from_word : (xs : List ℕ) (n : ℕ) → 8 ≤ length xs → ((k : ℕ) → get_or xs k 0 < 256) → from_le_bytes w64 xs ≡ n → take 8 xs ≡ eight n
eight_from_word xs n long fits is =
    let each : (k : ℕ) → get_or (take 8 xs) k 0 < 256 = λ k. elim (cases_lt k 8) [
      | inl lt ↦ subst (λ m. m < 256) (sym (get_or-take 8 xs k 0 lt)) (fits k)
      | inr ge ↦ subst (λ m. m < 256) (sym (get_or_past (take 8 xs) k 0 (omega (arith, length-take-le 8 xs long)))) (omega arith)
    ] in
    sym (le_bytes_8 (take 8 xs) n (length-take-le 8 xs long) each (sym is ∙ sym (word_of_eight xs)))

pub word_from_eight : (xs : List ℕ) (n : ℕ) → n < 2 ^ 64 → take 8 xs ≡ eight n → from_le_bytes w64 xs ≡ n
word_from_eight xs n fits is = sym (word_of_eight xs) ∙ ap (from_le_bytes w64) is ∙ from_le_bytes-to_le_bytes_8 n fits

-- each number of several that stand one behind another
pub number_in_fours : (xs rest : List ℕ) (k : ℕ) → k < length xs → get_or xs k 0 < 2 ^ 32 → from_le_bytes w32 (drop (4 * k) (fours xs ++ rest)) ≡ get_or xs k 0
number_in_fours [] rest k lt fits = absurd (omega arith)
number_in_fours (x ∷ xs) rest zero lt fits = from_le_bytes-to_le_bytes_4 x fits
number_in_fours (x ∷ xs) rest (suc k) lt fits =
    let e : 4 * suc k ≡ suc (suc (suc (suc (4 * k)))) = omega arith in
    ap (λ n. from_le_bytes w32 (drop n (fours (x ∷ xs) ++ rest))) e ∙ number_in_fours xs rest k (omega arith) fits
