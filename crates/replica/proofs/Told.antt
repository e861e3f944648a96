-- Words of entries, read as they are written.
use Rattle.std.proofs.Common.{◌≡◌, ℕ, ◌<◌, ◌≤◌, ◌^◌, Bool, true, false, eqb, ◌&&◌, List, [], ◌∷◌, ◌++◌, length, take, drop, get_or, codes, decimal, refl, sym, ap, subst, arith, lit≤}
use Rattle.std.specs.List.{list_all}
use Rattle.std.proofs.lemmas.Option.{none-some, same_Some}
use Rattle.std.proofs.lemmas.Slice.Eq.{bytes_eq-Decides}
use Rattle.std.proofs.lemmas.Bool.Decides.{nat_tests}
use Rattle.std.proofs.Math.Seq.{split_at}
use Rattle.pid_script.specs.Reading.{is_word}
use Rattle.pid_script.proofs.Cuts.{by_test}
use Rattle.pid_script.proofs.Numbers.{numerals, AllDigits, digits_decimal, digit_from_value}
use Rattle.pid_script.proofs.Words.{Reads, both, control, lacks_decimal}
use Rattle.replica.specs.Entries.{LacksByte, is_digit, is_hex, is_key}
use Rattle.replica.specs.Reading.{passed, settings_in, calls_head_in, announced_in}

pub both_true : (a b : Bool) → (a && b) ≡ true → (a ≡ true) × (b ≡ true)
both_true true b is = (refl, is)
both_true false b is = cc is

pub same_number : (m n : ℕ) → eqb m n ≡ true → m ≡ n
same_number m n is = grind (arith)

-- a word that passes a test is read as itself
pub passes : (test : List ℕ → Bool) (most : ℕ) → ((w : List ℕ) → test w ≡ true → length w ≤ most)
    → Reads (passed test) (λ w. w) (λ w. test w ≡ true) most
passes test most short = record {
  told = λ w holds. (rw holds, short w holds);
  says = λ w x is.
      by_test (test w)
      (λ holds. let same : w ≡ x = same_Some w x (rw holds at is) in (same, subst (λ w. test w ≡ true) same holds))
      (λ fails. absurd (none-some x (rw fails at is)));
}

pub word_short : (word w : List ℕ) → is_word word w ≡ true → length w ≤ length word
word_short word w holds = omega (arith, ap length ((bytes_eq-Decides w word).0 holds))

hex_short : (n : ℕ) (w : List ℕ) → is_hex n w ≡ true → length w ≤ n
hex_short n w holds = omega (arith, same_number (length w) n (both_true _ _ holds).0)

key_short : (w : List ℕ) → is_key w ≡ true → length w ≤ 33
key_short w holds = omega (arith, same_number (length w) 33 (both_true _ _ holds).0)

-- no hexadecimal digit is a space or a newline
digit_not : (b c : ℕ) → c ≤ 32 → is_digit b ≡ true → eqb b c ≡ false
digit_not b c low is = grind (arith, nat_tests)

pub lacks_digits : (c : ℕ) (w : List ℕ) → c ≤ 32 → list_all is_digit w ≡ true → LacksByte c w
lacks_digits c [] low all = tt
lacks_digits c (b ∷ w) low all =
    let parts = both_true (is_digit b) (list_all is_digit w) all in (digit_not b c low parts.0, lacks_digits c w low parts.1)

pub lacks_hex : (n c : ℕ) (w : List ℕ) → c ≤ 32 → is_hex n w ≡ true → LacksByte c w
lacks_hex n c w low is = lacks_digits c w low (both_true _ _ is).1

pub Lacks-append : (c : ℕ) (u v : List ℕ) → LacksByte c u → LacksByte c v → LacksByte c (u ++ v)
Lacks-append c [] v first second = second
Lacks-append c (b ∷ u) v first second = (first.0, Lacks-append c u v first.1 second)

number_lacks : (c : ℕ) (ds : List ℕ) → c ≤ 32 → AllDigits 10 ds → LacksByte c ds
number_lacks c [] low digits = tt
number_lacks c (d ∷ ds) low digits =
    let range = digit_from_value d digits.0 in
    let differs : eqb d c ≡ false = grind (arith, nat_tests) in
    (differs, number_lacks c ds low digits.1)

pub lacks_number : (n : ℕ) → n < 2 ^ 64 → LacksByte 10 (decimal n)
lacks_number n small = number_lacks 10 (decimal n) (lit≤ tt) (digits_decimal numerals n small)

pub lacks_key : (w : List ℕ) → is_key w ≡ true → LacksByte 10 w
lacks_key w is =
    let long = both_true _ _ is in
    let first = both_true _ _ long.1 in
    let dash = both_true _ _ first.1 in
    let within : 16 < length w = omega (arith, same_number (length w) 33 long.0) in
    let byte : get_or w 16 0 ≡ 45 = same_number _ _ dash.0 in
    subst (LacksByte 10) (sym (split_at w 16 0 within))
    (Lacks-append 10 (take 16 w) _ (lacks_hex 16 10 (take 16 w) (lit≤ tt) first.0)
    (subst (λ b. LacksByte 10 (b ∷ drop 17 w)) (sym byte) (refl, lacks_hex 16 10 (drop 17 w) (lit≤ tt) dash.1)))

abbrev pub settings_words : ℕ × (List ℕ × (ℕ × (List ℕ × ℕ))) → List ℕ
settings_words p = decimal p.0 ++ 32 ∷ (p.1.0 ++ 32 ∷ (decimal p.1.1.0 ++ 32 ∷ (p.1.1.1.0 ++ 32 ∷ decimal p.1.1.1.1)))

fixed_lacks : (word : List ℕ) → LacksByte 32 word → (w : List ℕ) → is_word word w ≡ true → LacksByte 32 w
fixed_lacks word lacks w is = subst (LacksByte 32) (sym ((bytes_eq-Decides w word).0 is)) lacks

pid_max_lacks : LacksByte 32 (codes "pid_max")
pid_max_lacks = (refl, (refl, (refl, (refl, (refl, (refl, (refl, tt)))))))

model_lacks : LacksByte 32 (codes "model")
model_lacks = (refl, (refl, (refl, (refl, (refl, tt)))))

pub settings_read : Reads settings_in settings_words (λ p. (p.0 < 2 ^ 64) × ((is_word (codes "pid_max") p.1.0 ≡ true) × ((p.1.1.0 < 2 ^ 64)
    × ((is_word (codes "model") p.1.1.1.0 ≡ true) × (p.1.1.1.1 < 2 ^ 64))))) 76
settings_read =
    both control lacks_decimal (both (passes (is_word (codes "pid_max")) 7 (word_short (codes "pid_max"))) (fixed_lacks (codes "pid_max") pid_max_lacks)
    (both control lacks_decimal (both (passes (is_word (codes "model")) 5 (word_short (codes "model"))) (fixed_lacks (codes "model") model_lacks) control)))

abbrev pub head_words : ℕ × (ℕ × (ℕ × (ℕ × List ℕ))) → List ℕ
head_words p = decimal p.0 ++ 32 ∷ (decimal p.1.0 ++ 32 ∷ (decimal p.1.1.0 ++ 32 ∷ (decimal p.1.1.1.0 ++ 32 ∷ p.1.1.1.1)))

pub head_read : Reads calls_head_in head_words (λ p. (p.0 < 2 ^ 64) × ((p.1.0 < 2 ^ 64) × ((p.1.1.0 < 2 ^ 64)
    × ((p.1.1.1.0 < 2 ^ 64) × (is_hex 16 p.1.1.1.1 ≡ true))))) 100
head_read =
    both control lacks_decimal (both control lacks_decimal (both control lacks_decimal (both control lacks_decimal (passes (is_hex 16) 16 (hex_short 16)))))

abbrev pub announced_words : ℕ × (List ℕ × (ℕ × (List ℕ × List ℕ))) → List ℕ
announced_words p = decimal p.0 ++ 32 ∷ (p.1.0 ++ 32 ∷ (decimal p.1.1.0 ++ 32 ∷ (p.1.1.1.0 ++ 32 ∷ p.1.1.1.1)))

pub announced_read : Reads announced_in announced_words (λ p. (p.0 < 2 ^ 64) × ((is_hex 64 p.1.0 ≡ true) × ((p.1.1.0 < 2 ^ 64)
    × ((is_hex 64 p.1.1.1.0 ≡ true) × (is_key p.1.1.1.1 ≡ true))))) 205
announced_read =
    both control lacks_decimal (both (passes (is_hex 64) 64 (hex_short 64)) (λ w is. lacks_hex 64 32 w (lit≤ tt) is)
    (both control lacks_decimal (both (passes (is_hex 64) 64 (hex_short 64)) (λ w is. lacks_hex 64 32 w (lit≤ tt) is) (passes is_key 33 key_short))))
