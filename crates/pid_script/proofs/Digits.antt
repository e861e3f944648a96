-- A number's last digit, and what stands before it.
use Rattle.std.proofs.Common.{◌≡◌, ℕ, ◌+◌, ◌/◌, ◌%◌, ◌^◌, ◌<◌, ◌≤◌, List, ◌++◌, ◌∷◌, [], length, decimal, sym, ap, ◌∙◌, arith, length-append, append_assoc}
use Rattle.std.proofs.lemmas.Fmt.{decimal_digit, decimal_step}

-- one digit
pub length_one : (n : ℕ) → n < 10 → length (decimal n) ≡ 1
length_one n one = ap length (decimal_digit n one)

-- several digits: all but the last, and the last
pub decimal_more : (n : ℕ) → 10 ≤ n → n < 2 ^ 64 → decimal n ≡ decimal (n / 10) ++ decimal (n % 10)
decimal_more n several small =
    let last : n % 10 < 10 = omega arith in
    decimal_step n several small ∙ ap (λ ds. decimal (n / 10) ++ ds) (sym (decimal_digit (n % 10) last))

pub length_more : (n : ℕ) → 10 ≤ n → n < 2 ^ 64 → length (decimal n) ≡ length (decimal (n / 10)) + 1
length_more n several small =
    ap length (decimal_step n several small) ∙ length-append (decimal (n / 10)) ((48 + n % 10) ∷ [])

-- what is written of all but the last, and then the last, is the number
pub shown_more : (text : List ℕ) (n : ℕ) → 10 ≤ n → n < 2 ^ 64 → (text ++ decimal (n / 10)) ++ decimal (n % 10) ≡ text ++ decimal n
shown_more text n several small =
    append_assoc text (decimal (n / 10)) (decimal (n % 10)) ∙ ap (λ ds. text ++ ds) (sym (decimal_more n several small))

-- room for the last digit is what is left behind the others
pub length_all : (text before : List ℕ) (n : ℕ) → text ≡ before ++ decimal (n / 10) → 10 ≤ n → n < 2 ^ 64 → length text + 1 ≡ length before + length (decimal n)
length_all text before n is several small = omega (arith, ap length is, length-append before (decimal (n / 10)), length_more n several small)

pub ruleset few_digits = (length_one, length_more, length_all, shown_more)

pub ruleset one_digit = (decimal_digit, length_one)
