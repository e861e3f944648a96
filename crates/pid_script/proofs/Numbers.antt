-- Numbers, and the words that they are written as.
use Rattle.std.proofs.Common.{◌≡◌, ◌≢◌, ℕ, ◌+◌, ◌*◌, ◌^◌, ◌<◌, ◌≤◌, Bool, true, false, cond, ◌&&◌, eqb, ltb, List, [], ◌∷◌, ◌++◌, length, get_or, Option, Some, None, IfSome, IfNone, Result, Ok, Err, OkIff, decimal, refl, sym, ap, ◌∙◌, subst, arith, bytes_eq, lt-ltb, ltb-true, zero, suc, lit<, lit≤, inl, inr, length-append, take, drop, length-take-le, get_or-take, ℤ, pos, neg_ℤ, ◌-ℤ◌, FitsSigned, SomeIff, option_map, option_and_then, eq-eqb, eqb-true, ⊎_elim}
use Rattle.std.specs.Result.{result_ok}
pub use Rattle.std.specs.Int.{w32}
pub use Rattle.std.specs.Fmt.{signed_decimal}
use Rattle.std.specs.Char.{digit_value}
pub use lib.IntN.{negsuc, +ℤ_idl}
pub use Rattle.std.proofs.lemmas.List.{get_or-append-add, get_or_append_left, take_all, take_at}
use Rattle.std.proofs.lemmas.Slice.{between_to_end}
use Rattle.std.proofs.lemmas.Bool.{cases_lt, ne_eqb}
pub use Rattle.std.proofs.lemmas.Bool.Decides.{nat_tests}
pub use Rattle.std.specs.Str.Parse.{AllDigits, digits_value}
pub use Rattle.std.proofs.lemmas.Slice.Eq.{bytes_eq-Decides}
pub use Rattle.std.proofs.lemmas.Str.Parse.{IsNumeralModel, numerals_by_value, tells_digits, not_in_digits, digit_from_value, digits_value-take-le, digits_value_short}
use Rattle.std.proofs.lemmas.Int.Digits.{digits_value_more, digits_more}
use Rattle.std.proofs.lemmas.Str.{digit_value_digit}
pub use Rattle.std.proofs.lemmas.Option.{none-some, same_Some, option_and_then_some}
use Rattle.pid_script.proofs.Cuts.{by_test, cut-Some, cut-found, option_map_some}
pub use Rattle.std.proofs.lemmas.Fmt.{digits_decimal, digits_value-decimal, decimal-digits_value, decimal_nonempty, first_decimal, decimal_digit}
use Rattle.pid_script.specs.Reading.{IsFreeOf, IsFrontOf, IsPlain, cut, number_below, number_then, negative_of, signed_of}

-- std's words for digits and their value
pub numerals : IsNumeralModel (AllDigits 10) (digits_value 10)
numerals = numerals_by_value (AllDigits 10) tells_digits

-- a number is what its word says
pub number_below-decimal : (bound n : ℕ) → n < bound → n < 2 ^ 64 → number_below bound (decimal n) ≡ Some n
unfolding number_below
number_below-decimal bound n below small =
    let value : digits_value 10 (decimal n) ≡ n = digits_value-decimal numerals n small in
    rw (value, lt-ltb n bound below, (bytes_eq-Decides (decimal n) (decimal n)).1 refl)

guarded : (a b : Bool) (n m : ℕ) → cond (a && b) (Some n) None ≡ Some m → (a ≡ true) × (b ≡ true) × (n ≡ m)
guarded true true n m e = (refl, refl, (cc))
guarded true false n m e = cc
guarded false b n m e = cc

-- a word that says a number is how that number is written
pub number_below-Some : (bound : ℕ) (word : List ℕ) (n : ℕ) → number_below bound word ≡ Some n → (n < bound) × (decimal n ≡ word)
unfolding number_below
number_below-Some bound word n e =
    let parts = guarded (ltb (digits_value 10 word) bound) (bytes_eq (decimal (digits_value 10 word)) word) _ _ e in
    (subst (λ m. m < bound) parts.2 (ltb-true _ _ parts.0), subst (λ m. decimal m ≡ word) parts.2 ((bytes_eq-Decides _ _).0 parts.1))

-- a word that is not how a number is written says none
pub number_below-None : (bound : ℕ) (word : List ℕ) → ((n : ℕ) → n < bound → decimal n ≢ word) → number_below bound word ≡ None
number_below-None bound word none =
    elim (number_below bound word) as (λ r. number_below bound word ≡ r → r ≡ None) [
      | None ↦ λ e. refl
      | Some n ↦ λ e. let is = number_below-Some bound word n e in absurd (none n is.0 is.1)
    ] refl

-- how a number is written
plain_decimal : (n : ℕ) → n < 2 ^ 64 → IsPlain (decimal n)
plain_decimal zero small = subst IsPlain (sym (decimal_digit 0 (lit< tt))) (lit< tt, λ e. refl)
plain_decimal (suc n) small =
    let first = first_decimal (suc n) (omega arith) small in
    (decimal_nonempty (suc n) small, λ e. absurd (omega (arith, e, first)))

-- a word that is not plain says no number
pub number_below-not_plain : (word : List ℕ) → (IsPlain word → ⊥) → number_below (2 ^ 64) word ≡ None
number_below-not_plain word not_plain =
    number_below-None (2 ^ 64) word (λ n below is. not_plain (subst IsPlain is (plain_decimal n below)))

-- the value of a digit
pub ruleset digit = (digit_value_digit, digit_from_value)

-- a plain word of digits says what they write
pub number_below-digits : (word : List ℕ) (n : ℕ) → IsPlain word → AllDigits 10 word → n ≡ digits_value 10 word → n < 2 ^ 64 → Some n ≡ number_below (2 ^ 64) word
number_below-digits word n plain digits is small =
    let written = decimal-digits_value numerals word digits plain.0 plain.1 (subst (λ m. m < 2 ^ 64) is small) in
    sym (subst (λ w. number_below (2 ^ 64) w ≡ Some n) written (subst (λ m. number_below (2 ^ 64) (decimal m) ≡ Some n) is (number_below-decimal (2 ^ 64) n small small)))

-- a word with another byte, or of too great a number, says none
pub number_below-no_digits : (word : List ℕ) → (AllDigits 10 word → digits_value 10 word < 2 ^ 64 → ⊥) → None ≡ number_below (2 ^ 64) word
number_below-no_digits word refused =
    sym (number_below-None (2 ^ 64) word (λ n below is. refused (subst (AllDigits 10) is (digits_decimal numerals n below))
    (subst (λ w. digits_value 10 w < 2 ^ 64) is (subst (λ m. m < 2 ^ 64) (sym (digits_value-decimal numerals n below)) below))))

digit_at : (ds : List ℕ) (i : ℕ) → i < length ds → AllDigits 10 ds → digit_value (get_or ds i 0) < 10
digit_at [] i lt digits = absurd (omega (arith, lt))
digit_at (d ∷ ds) zero lt digits = digits.0
digit_at (d ∷ ds) (suc i) lt digits = digit_at ds i (omega (arith, lt)) digits.1

-- a byte that is no digit, or one too many, stands for the whole word
pub digits_stop : (word : List ℕ) (i n : ℕ) → i < length word → n ≡ digits_value 10 (take i word)
    → (digit_value (get_or word i 0) < 10 → n * 10 + digit_value (get_or word i 0) < 2 ^ 64 → ⊥) → AllDigits 10 word → digits_value 10 word < 2 ^ 64 → ⊥
digits_stop word i n lt is refused digits small =
    refused (digit_at word i lt digits) (omega (arith, is, small, digits_value_more 10 word i lt, digits_value-take-le 10 word (i + 1) (lit≤ tt)))

-- what is read of a plain word
pub read_plain : (word : List ℕ) (r : Option ℕ) → IsPlain word → IfSome r (λ n. AllDigits 10 word × (n ≡ digits_value 10 word))
    → IfNone r (AllDigits 10 word → digits_value 10 word < 2 ^ 64 → ⊥) → IfSome r (λ n. n < 2 ^ 64) → r ≡ number_below (2 ^ 64) word
read_plain word (Some n) plain some none small = number_below-digits word n plain some.0 some.1 small
read_plain word None plain some none small = number_below-no_digits word none

-- two bounds, of which the second is no larger
module _ (wide bound : ℕ) (word : List ℕ) (fits : wide ≤ 2 ^ 64) (le : bound ≤ wide) where
  said : (n : ℕ) → n < bound → decimal n ≡ word → number_below wide word ≡ Some n
  said n below is = subst (λ w. number_below wide w ≡ Some n) is (number_below-decimal wide n (omega arith) (omega arith))

  -- a word that says no number below the larger bound says none below the smaller
  pub number_below-missing : number_below wide word ≡ None → number_below bound word ≡ None
  number_below-missing none = number_below-None bound word (λ n below is. none-some n (sym none ∙ said n below is))

  -- a number that is below the smaller bound too is what the word says there
  pub number_below-within : (n : ℕ) → number_below wide word ≡ Some n → n < bound → number_below bound word ≡ Some n
  number_below-within n some below =
      let is = number_below-Some wide word n some in
      subst (λ w. number_below bound w ≡ Some n) is.1 (number_below-decimal bound n below (omega arith))

  -- a number that is not, is not
  pub number_below-beyond : (n : ℕ) → number_below wide word ≡ Some n → bound ≤ n → number_below bound word ≡ None
  number_below-beyond n some past =
      number_below-None bound word (λ m below is.
      let same = same_Some m n (sym (said m below is) ∙ some) in absurd (omega arith))

  -- what a conversion to the smaller type makes of the number
  pub number_below-narrowed : (E : Type 0) (n : ℕ) (r : Result ℕ E) → Some n ≡ number_below wide word → OkIff r (n < bound) n → result_ok r ≡ number_below bound word
  number_below-narrowed E n (Ok x) some is = ap Some is.1 ∙ sym (number_below-within n (sym some) is.0)
  number_below-narrowed E n (Err e) some not_below = sym (number_below-beyond n (sym some) (omega (arith, not_below)))

-- the number of at most eight digits does not pass the bound with one more
pub front_fits : (word : List ℕ) (i n : ℕ) → i ≤ 8 → i ≤ length word → AllDigits 10 (take i word) → n ≡ digits_value 10 (take i word) → n < 10 ^ 8
front_fits word i n few within digits is =
    rw is (digits_value_short numerals (take i word) 8 digits (omega (arith, length-take-le i word within)))

-- a plain word of at most nine digits says what they write
pub short_some : (word : List ℕ) (n : ℕ) → length word ≤ 9 → IsPlain word → AllDigits 10 word → n ≡ digits_value 10 word → number_below (2 ^ 32) word ≡ Some n
short_some word n short plain digits is =
    let small : n < 10 ^ 9 = rw is (digits_value_short numerals word 9 digits short) in
    number_below-within (2 ^ 64) (2 ^ 32) word (lit≤ tt) (lit≤ tt) n (sym (number_below-digits word n plain digits is (omega arith))) (omega arith)

-- a word that is its own front
pub front_whole : (word : List ℕ) (i n : ℕ) → IsFrontOf word i n → length word ≤ i → IsPlain word → Some n ≡ number_below (2 ^ 32) word
front_whole word i n front whole plain =
    let all = take_all i word whole in
    sym (short_some word n (omega (arith, front.few, front.within)) plain (subst (AllDigits 10) all front.all) (front.value ∙ ap (digits_value 10) all))

-- a word with a byte that is no digit says no number
pub short_none : (word : List ℕ) (i : ℕ) → i < length word → (digit_value (get_or word i 0) < 10 → ⊥) → number_below (2 ^ 32) word ≡ None
short_none word i lt refused =
    number_below-missing (2 ^ 64) (2 ^ 32) word (lit≤ tt) (lit≤ tt) (sym (number_below-no_digits word (λ digits small. refused (digit_at word i lt digits))))

-- nor does one that is not plain
pub not_plain_none : (word : List ℕ) → (IsPlain word → ⊥) → number_below (2 ^ 32) word ≡ None
not_plain_none word not_plain = number_below-missing (2 ^ 64) (2 ^ 32) word (lit≤ tt) (lit≤ tt) (number_below-not_plain word not_plain)

-- a word with few digits in front that is not those digits, or is not plain, says no number
pub front_none : (word : List ℕ) (i n : ℕ) → IsFrontOf word i n → i < 9 → (length word ≤ i → IsPlain word → ⊥) → number_below (2 ^ 32) word ≡ None
front_none word i n front few not_it =
    elim (cases_lt i (length word)) [
      | inl lt ↦ short_none word i lt (front.ended few lt)
      | inr whole ↦ not_plain_none word (not_it whole)
    ]

-- the digits in front have no space among them
no_space : (words : List ℕ) (i n : ℕ) → IsFrontOf words i n → IsFreeOf 32 i words
no_space words i n front k below is =
    not_in_digits numerals (take i words) 32 front.all (λ range. absurd (omega (arith, range))) k (omega (arith, length-take-le i words front.within)) (get_or-take i words k 0 below ∙ is)

abbrev numbered : Option (List ℕ × List ℕ) → Option (ℕ × List ℕ)
numbered o = option_and_then (λ p. option_and_then (λ m. Some (m, p.1)) (number_below (2 ^ 32) p.0)) o

-- what stands before a space is no number, where it is not the digits in front, or they are not plain
module _ (words : List ℕ) (i n : ℕ) (front : IsFrontOf words i n) (few : i < 9)
    (not_it : i < length words → get_or words i 0 ≡ 32 → IsPlain (take i words) → ⊥) where
  none_before : (w rest : List ℕ) → words ≡ w ++ 32 ∷ rest → number_below (2 ^ 32) w ≡ None
  none_before w rest parts =
      let long : length words ≡ length w + suc (length rest) = ap length parts ∙ length-append w (32 ∷ rest) in
      let here : get_or words (length w + 0) 0 ≡ 32 = ap (λ l. get_or l (length w + 0) 0) parts ∙ get_or-append-add w (32 ∷ rest) 0 0 in
      elim (cases_lt i (length w)) [
        | inl lt ↦ short_none w i lt (subst (λ b. digit_value b < 10 → ⊥) (ap (λ l. get_or l i 0) parts ∙ get_or_append_left w (32 ∷ rest) 0 i lt) (front.ended few (omega arith)))
        | inr ge ↦ elim (cases_lt (length w + 0) i) [
          | inl lt ↦ absurd (no_space words i n front (length w + 0) lt here)
          | inr le ↦
              let same : length w + 0 ≡ i = omega arith in
              let is : w ≡ take i words = sym (ap (take i) parts ∙ take_at w (32 ∷ rest) i (omega arith)) in
              not_plain_none w (λ plain. not_it (omega arith) (subst (λ k. get_or words k 0 ≡ 32) same here) (subst IsPlain is plain))
        ]
      ]

  pub front_then_none : number_then (2 ^ 32) words ≡ None
  front_then_none =
      elim (cut 32 words) as (λ o. cut 32 words ≡ o → numbered o ≡ None) [
        | None ↦ λ cuts. refl
        | Some p ↦ λ cuts. (rw (none_before p.0 p.1 (cut-Some 32 words p cuts)))
      ] refl

-- digits up to a space
pub front_then : (words : List ℕ) (i n : ℕ) → IsFrontOf words i n → i < length words → get_or words i 0 ≡ 32 → IsPlain (take i words)
    → Some (n, drop (i + 1) words) ≡ number_then (2 ^ 32) words
front_then words i n front lt space plain =
    let long = length-take-le i words front.within in
    let cuts : cut 32 words ≡ Some (take i words, drop (i + 1) words) = cut-found 32 words i (record { within = lt; is = space; free = no_space words i n front }) in
    sym (rw (cuts, short_some (take i words) n (omega (arith, long, front.few)) plain front.all front.value))

-- where there is no number, there is none with a minus sign
pub negative_of-missing : (digits : List ℕ) → number_below (2 ^ 32) digits ≡ None → negative_of digits ≡ None
unfolding negative_of
negative_of-missing digits none = rw (number_below-missing (2 ^ 32) (2 ^ 31 + 1) digits (lit≤ tt) (lit≤ tt) none)

-- nor for 0
pub negative_of-zero : (digits : List ℕ) → number_below (2 ^ 32) digits ≡ Some 0 → negative_of digits ≡ None
unfolding negative_of
negative_of-zero digits none = rw (number_below-within (2 ^ 32) (2 ^ 31 + 1) digits (lit≤ tt) (lit≤ tt) 0 none (lit< tt))

zero_minus : (n : ℕ) → pos 0 -ℤ pos n ≡ neg_ℤ (pos n)
zero_minus n = +ℤ_idl (neg_ℤ (pos n))

not_zero : (n : ℕ) → eqb (suc n) 0 ≡ false
not_zero n = grind (arith, nat_tests)

-- the difference from 0 is the number with a minus sign
pub negative_of-some : (digits : List ℕ) (n : ℕ) (r : Option ℤ) → number_below (2 ^ 32) digits ≡ Some n → n ≢ 0 → SomeIff r (FitsSigned w32 (pos 0 -ℤ pos n)) (pos 0 -ℤ pos n) → r ≡ negative_of digits
unfolding negative_of
negative_of-some digits zero r some nonzero is = absurd (nonzero refl)
negative_of-some digits (suc m) (Some z) some nonzero is =
    let fits : FitsSigned w32 (negsuc m) = subst (FitsSigned w32) (zero_minus (suc m)) is.0 in
    let small : m < 2 ^ 31 = fits.sfits in
    rw (number_below-within (2 ^ 32) (2 ^ 31 + 1) digits (lit≤ tt) (lit≤ tt) (suc m) some (omega arith), not_zero m) (ap Some (is.1 ∙ zero_minus (suc m)))
negative_of-some digits (suc m) None some nonzero not_fits =
    ⊎_elim
    (λ below.
    let small : m < 2 ^ 31 = omega arith in
    let fits : FitsSigned w32 (negsuc m) = record { sfits = small } in
    absurd (not_fits (subst (FitsSigned w32) (sym (zero_minus (suc m))) fits)))
    (λ past. rw (number_below-beyond (2 ^ 32) (2 ^ 31 + 1) digits (lit≤ tt) (lit≤ tt) (suc m) some past))
    (cases_lt (suc m) (2 ^ 31 + 1))

negative_of-decimal : (n : ℕ) → n < 2 ^ 31 → negative_of (decimal (suc n)) ≡ Some (negsuc n)
unfolding negative_of
negative_of-decimal n small = rw (number_below-decimal (2 ^ 31 + 1) (suc n) (omega arith) (omega arith), not_zero n)

-- behind a minus sign
pub signed_of-minus : (word : List ℕ) → 0 < length word → get_or word 0 0 ≡ 45 → signed_of word ≡ negative_of (drop 1 word)
unfolding signed_of
signed_of-minus [] long minus = absurd (omega arith)
signed_of-minus (b ∷ bs) long minus = rw (eq-eqb b 45 minus)

-- with no minus sign
pub signed_of-plain : (word : List ℕ) → (0 < length word → get_or word 0 0 ≢ 45) → signed_of word ≡ option_map pos (number_below (2 ^ 31) word)
unfolding signed_of
signed_of-plain [] no_minus = rw (number_below-None (2 ^ 31) [] (λ n below is. let long = decimal_nonempty n (omega arith) in let empty = ap length is in absurd (omega arith)))
signed_of-plain (b ∷ bs) no_minus = rw (ne_eqb b 45 (no_minus (omega arith)))

signed_plain : (n : ℕ) → n < 2 ^ 64 → signed_of (decimal n) ≡ option_map pos (number_below (2 ^ 31) (decimal n))
signed_plain n small =
    signed_of-plain (decimal n) (not_in_digits numerals (decimal n) 45 (digits_decimal numerals n small) (λ range. absurd (omega (arith, range))) 0)

-- a number with its sign is what its word says
pub signed_of-decimal : (z : ℤ) → FitsSigned w32 z → signed_of (signed_decimal z) ≡ Some z
signed_of-decimal (pos n) fits =
    let small : n < 2 ^ 31 = fits.sfits in
    signed_plain n (omega arith) ∙ ap (option_map pos) (number_below-decimal (2 ^ 31) n small (omega arith))
signed_of-decimal (negsuc n) fits =
    let small : n < 2 ^ 31 = fits.sfits in signed_of-minus (45 ∷ decimal (suc n)) (omega arith) refl ∙ negative_of-decimal n small

-- a number with no sign
pub unsigned : (E : Type 0) (word : List ℕ) (n : ℕ) (r : Result ℤ E) → number_below (2 ^ 32) word ≡ Some n → OkIff r (FitsSigned w32 (pos n)) (pos n) → result_ok r ≡ signed_of word
unsigned E word n r some is =
    let written = number_below-Some (2 ^ 32) word n some in subst (λ w. result_ok r ≡ signed_of w) written.1 (at r is)
  where
    at : (r : Result ℤ E) → OkIff r (FitsSigned w32 (pos n)) (pos n) → result_ok r ≡ signed_of (decimal n)
    at (Ok z) is = ap Some is.1 ∙ sym (signed_of-decimal (pos n) is.0)
    at (Err e) not_fits =
        let small = number_below-Some (2 ^ 32) word n some in
        let never : ¬ (n < 2 ^ 31) = λ below. not_fits (record { sfits = below }) in
        let past : 2 ^ 31 ≤ n = omega (arith, never) in
        let said = number_below-decimal (2 ^ 32) n small.0 (omega (arith, small.0)) in
        sym (rw (signed_plain n (omega (arith, small.0)), number_below-beyond (2 ^ 32) (2 ^ 31) (decimal n) (lit≤ tt) (lit≤ tt) n said past))

negated_Some : (n : ℕ) (z : ℤ) (digits : List ℕ) → n < 2 ^ 31 + 1 → decimal n ≡ digits → cond (eqb n 0) None (Some (neg_ℤ (pos n))) ≡ Some z → FitsSigned w32 z × (signed_decimal z ≡ 45 ∷ digits)
negated_Some zero z digits below written is = absurd (none-some z is)
negated_Some (suc m) z digits below written is =
    let some : Some (negsuc m) ≡ Some z = subst (λ t. cond t None (Some (negsuc m)) ≡ Some z) (not_zero m) is in
    let small : m < 2 ^ 31 = omega arith in
    subst (λ y. FitsSigned w32 y × (signed_decimal y ≡ 45 ∷ digits)) (same_Some _ z some) (record { sfits = small }, ap (λ ds. 45 ∷ ds) written)

-- a word that says a number with its sign is how that number is written
pub signed_of-Some : (word : List ℕ) (z : ℤ) → signed_of word ≡ Some z → FitsSigned w32 z × (signed_decimal z ≡ word)
unfolding signed_of negative_of
signed_of-Some [] z is = absurd (none-some z is)
signed_of-Some (b ∷ bs) z is =
    by_test (eqb b 45)
    (λ minus. option_and_then_some _ (number_below (2 ^ 31 + 1) bs) z (rw minus at is) (λ n number negated.
    let parts = number_below-Some (2 ^ 31 + 1) bs n number in
    subst (λ x. FitsSigned w32 z × (signed_decimal z ≡ x ∷ bs)) (sym (eqb-true _ _ minus)) (negated_Some n z bs parts.0 parts.1 negated)))
    (λ other. option_map_some pos (number_below (2 ^ 31) (b ∷ bs)) z (rw other at is) (λ n number same.
    let parts = number_below-Some (2 ^ 31) (b ∷ bs) n number in
    subst (λ y. FitsSigned w32 y × (signed_decimal y ≡ b ∷ bs)) same (record { sfits = parts.0 }, parts.1)))

pub ruleset narrower = (number_below-missing, number_below-narrowed)

pub ruleset negative = (negative_of-missing, negative_of-zero, negative_of-some)

pub ruleset digits = (digits_stop, front_fits, digits_value_more, digits_more)

pub ruleset fronts = (front_none, front_whole)

pub ruleset signs = (signed_of-minus, signed_of-plain, number_below-missing, between_to_end)
