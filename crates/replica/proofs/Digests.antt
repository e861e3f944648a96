-- The digits of a digest.
use Rattle.std.proofs.Common.{◌≡◌, MatchResult, ℕ, zero, suc, ◌+◌, ◌*◌, ◌/◌, ◌%◌, ◌<◌, ◌==◌, Bool, true, false, not, ◌&&◌, ◌||◌, eqb, ltb, List, [], ◌∷◌, length, slice_index, Option, Some, None, is_some, unwrap_or, Result, Ok, Err, refl, sym, ap, ◌∙◌, arith, lit≤}
use Rattle.std.specs.List.{list_all}
use Rattle.std.specs.Result.{result_ok}
use Rattle.std.proofs.lemmas.Bool.{and_parts}
use Rattle.std.proofs.lemmas.Bool.Decides.{nat_tests}
use Rattle.std.proofs.lemmas.Option.{none-some, same_Some}
use Rattle.hex.specs.Hex.{IsBytes, decode_of, decode_pairs, decode_sized, encode_lower, encode_with, hex_digit_value, lower_digits, pair_value, ◌>>=◌}
use Rattle.hex.specs.declared.error.FromHexError.{FromHexError}
use Rattle.hex.proofs.HexLemmas.{decode_of-even, decode_of-ok, decode_sized-encode_lower, decode_sized-twice, length-encode_with}
use Rattle.pid_script.proofs.Cuts.{by_test}
use Rattle.pid_script.proofs.Words.{Reads}
use Rattle.replica.specs.Entries.{LacksByte, is_digit, is_hex}
use Rattle.replica.specs.HeadReading.{digest_of}
use Rattle.replica.proofs.Told.{both_true, lacks_digits, same_number}

-- what a digit says
abbrev value_of : ℕ → ℕ
value_of c = unwrap_or (hex_digit_value c) 99

-- the test of a byte, and of the sixteen digits
abbrev is_told : ℕ → Bool
is_told c = not (is_digit c) || (is_some (hex_digit_value c) && (ltb (value_of c) 16 && (slice_index lower_digits (value_of c) == c)))

abbrev is_small : ℕ → Bool
is_small v = is_digit (slice_index lower_digits v)

abbrev all_below : (ℕ → Bool) → ℕ → Bool
all_below test zero = true
all_below test (suc n) = test n && all_below test n

at_below : (test : ℕ → Bool) (n k : ℕ) → all_below test n ≡ true → k < n → test k ≡ true
at_below test zero k all lt = absurd (omega arith)
at_below test (suc n) k all lt =
    let parts = and_parts (test n) (all_below test n) all in
    by_test (eqb k n)
    (λ same. rw (same_number k n same) parts.0)
    (λ other. at_below test n k parts.1 (below k n lt other))
  where
    below : (k n : ℕ) → k < suc n → eqb k n ≡ false → k < n
    below k n lt other = grind (arith, nat_tests)

bytes_told : all_below is_told 103 ≡ true
bytes_told = refl

digits_small : all_below is_small 16 ≡ true
digits_small = refl

-- a digit is that of its value
record IsDigit (c : ℕ) : Type 0 where
  value : ℕ
  read : hex_digit_value c ≡ Some value
  small : value < 16
  written : slice_index lower_digits value ≡ c

some_of : (o : Option ℕ) → is_some o ≡ true → o ≡ Some (unwrap_or o 99)
some_of None is = cc is
some_of (Some v) is = refl

digit_low : (c : ℕ) → is_digit c ≡ true → c < 103
digit_low c is = grind (arith, nat_tests)

told_of : (c : ℕ) → is_digit c ≡ true → is_told c ≡ true
    → (is_some (hex_digit_value c) ≡ true) × ((ltb (value_of c) 16 ≡ true) × ((slice_index lower_digits (value_of c) == c) ≡ true))
told_of c is told =
    let rest = rw is at told in
    let first = and_parts _ _ rest in
    let second = and_parts _ _ first.1 in
    (first.0, second)

digit_of : (c : ℕ) → is_digit c ≡ true → IsDigit c
digit_of c is =
    let told = told_of c is (at_below is_told 103 c bytes_told (digit_low c is)) in record {
      value = value_of c;
      read = some_of (hex_digit_value c) told.0;
      small = small_of (value_of c) told.1.0;
      written = same_number _ _ told.1.1;
    }
  where
    small_of : (v : ℕ) → ltb v 16 ≡ true → v < 16
    small_of v is = grind (arith, nat_tests)

-- an `Ok` behind another step
behind_ok : (r : Result (List ℕ) FromHexError) (b : ℕ) (d : List ℕ) → (r >>= (λ bytes. Ok (b ∷ bytes))) ≡ Ok d
    → (bytes : List ℕ) × (r ≡ Ok bytes) × (b ∷ bytes ≡ d)
behind_ok (Ok bytes) b d is = (bytes, refl, cc is)
behind_ok (Err e) b d is = cc is

-- small letters that say bytes are the digits of these
lower_says : (i : ℕ) (w d : List ℕ) → list_all is_digit w ≡ true → decode_pairs i w ≡ Ok d → w ≡ encode_lower d
unfolding decode_pairs encode_with
lower_says i [] d all is = let none : [] ≡ d = cc is in rw (← none) refl
lower_says i (a ∷ []) d all is = cc is
lower_says i (a ∷ b ∷ w) d all is =
    let first = both_true (is_digit a) (is_digit b && list_all is_digit w) all in
    let second = both_true (is_digit b) (list_all is_digit w) first.1 in
    let high = digit_of a first.0 in
    let low = digit_of b second.0 in
    let pair : pair_value a b i ≡ Ok (high.value * 16 + low.value) = rw (high.read, low.read) refl in
    let more = behind_ok (decode_pairs (i + 2) w) (high.value * 16 + low.value) d (rw pair at is) in
    let over : (high.value * 16 + low.value) / 16 ≡ high.value = omega (arith, high.small, low.small) in
    let under : (high.value * 16 + low.value) % 16 ≡ low.value = omega (arith, high.small, low.small) in
    let rest : w ≡ encode_lower more.0 = lower_says (i + 2) w more.0 second.1 more.1 in
    rw (← more.2, over, under, high.written, low.written) (ap (λ l. a ∷ b ∷ l) rest)

lower_digits_of : (d : List ℕ) → IsBytes d → list_all is_digit (encode_lower d) ≡ true
unfolding encode_with
lower_digits_of [] bytes = refl
lower_digits_of (b ∷ d) bytes =
    let fits : b < 256 = bytes 0 in
    let high : is_small (b / 16) ≡ true = at_below is_small 16 (b / 16) digits_small (omega arith) in
    let low : is_small (b % 16) ≡ true = at_below is_small 16 (b % 16) digits_small (omega arith) in
    rw (high, low, lower_digits_of d (λ k. bytes (suc k))) refl

ok_of : (r : Result (List ℕ) FromHexError) (d : List ℕ) → result_ok r ≡ Some d → r ≡ Ok d
ok_of (Ok x) d is = ap Ok (same_Some x d is)
ok_of (Err e) d is = absurd (none-some d is)

-- a digest is read of its digits
pub digests : Reads digest_of encode_lower (λ d. (length d ≡ 32) × IsBytes d) 64
unfolding digest_of
digests = record {
  told = λ d fits.
      let long : length (encode_lower d) ≡ 64 = omega (arith, length-encode_with lower_digits d, fits.0) in
      let hex : is_hex 64 (encode_lower d) ≡ true = rw (long, lower_digits_of d fits.1) refl in
      (rw (hex, decode_sized-encode_lower d 32 fits.0 fits.1) refl, omega (arith, long));
  says = λ w d is.
      by_test (is_hex 64 w)
      (λ hex.
      let parts = both_true (length w == 64) (list_all is_digit w) hex in
      let long : length w ≡ 64 = same_number (length w) 64 parts.0 in
      let sized = ok_of (decode_sized w 32) d (rw hex at is) in
      let whole : decode_of w ≡ Ok d = sym (decode_sized-twice w 32 long) ∙ sized in
      let ok = decode_of-ok w d whole in
      let pairs : decode_pairs 0 w ≡ Ok d = sym (decode_of-even w ok.0) ∙ whole in
      (lower_says 0 w d parts.1 pairs, (omega (arith, ok.2, long), ok.3)))
      (λ fails. absurd (none-some d (rw fails at is)));
}

pub lacks_digest : (d : List ℕ) → (length d ≡ 32) × IsBytes d → LacksByte 32 (encode_lower d)
lacks_digest d fits = lacks_digits 32 (encode_lower d) (lit≤ tt) (lower_digits_of d fits.1)

-- what decoding into 32 bytes says
pub decoded : (w : List ℕ) (r : Result Unit FromHexError) (out : List ℕ) → is_hex 64 w ≡ true
    → MatchResult (decode_sized w 32) (λ bytes. (r ≡ Ok tt) × (out ≡ bytes)) (λ e. r ≡ Err e) → r ≡ Ok tt → Some out ≡ digest_of w
unfolding digest_of
decoded w r out hex value ok = rw hex (by_result (decode_sized w 32) r out value ok)
  where
    by_result : (d : Result (List ℕ) FromHexError) (r : Result Unit FromHexError) (out : List ℕ)
        → MatchResult d (λ bytes. (r ≡ Ok tt) × (out ≡ bytes)) (λ e. r ≡ Err e) → r ≡ Ok tt → Some out ≡ result_ok d
    by_result (Ok bytes) r out value ok = ap Some value.1
    by_result (Err e) r out value ok = cc (value, ok)

pub not_decoded : (w : List ℕ) (r : Result Unit FromHexError) (out : List ℕ) (e : FromHexError) → is_hex 64 w ≡ true
    → MatchResult (decode_sized w 32) (λ bytes. (r ≡ Ok tt) × (out ≡ bytes)) (λ e. r ≡ Err e) → r ≡ Err e → None ≡ digest_of w
unfolding digest_of
not_decoded w r out e hex value err = rw hex (by_result (decode_sized w 32) r out e value err)
  where
    by_result : (d : Result (List ℕ) FromHexError) (r : Result Unit FromHexError) (out : List ℕ) (e : FromHexError)
        → MatchResult d (λ bytes. (r ≡ Ok tt) × (out ≡ bytes)) (λ e. r ≡ Err e) → r ≡ Err e → None ≡ result_ok d
    by_result (Ok bytes) r out e value err = cc (value.0, err)
    by_result (Err d) r out e value err = refl
