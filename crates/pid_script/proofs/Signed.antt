-- Numbers with their sign before a space.
use Rattle.std.proofs.Common.{◌≡◌, ℕ, ◌^◌, ◌<◌, List, ◌∷◌, [], length, get_or, drop, Option, Some, None, sym, ap, ◌∙◌, arith, lit≤, ℤ, option_and_then, option_map, refl, subst}
use Rattle.std.proofs.lemmas.Grind.{common_steps}
use Rattle.pid_script.specs.Reading.{cut, before, process_of, negative_of, signed_of, signed_then, IsUnsigned}
use Rattle.pid_script.proofs.Cuts.{cut-Some}
use Rattle.pid_script.proofs.Numbers.{number_below-missing, signed_of-plain, none-some, same_Some, option_and_then_some, get_or_append_left}

-- what begins with a minus sign
pub minus_first : (words : List ℕ) → 0 < length words → get_or words 0 0 ≡ 45 → words ≡ 45 ∷ drop 1 words
minus_first [] long minus = absurd (omega arith)
minus_first (b ∷ bs) long minus = ap (λ c. c ∷ bs) minus

-- what is read of a word, with what stands behind it
abbrev numbered : {A : Type 0} → (List ℕ → Option A) → List ℕ × List ℕ → Option (A × List ℕ)
numbered read p = option_and_then (λ x. Some (x, p.1)) (read p.0)

abbrev minused : List ℕ × List ℕ → List ℕ × List ℕ
minused p = (45 ∷ p.0, p.1)

-- behind a minus sign
pub minus : (digits : List ℕ) → signed_then (45 ∷ digits) ≡ before negative_of digits
unfolding signed_of
minus digits =
    elim (cut 32 digits) as (λ o. option_and_then (numbered signed_of) (option_map minused o) ≡ option_and_then (numbered negative_of) o) [
      | None ↦ refl
      | Some p ↦ refl
    ]

no_number : (rest : List ℕ) (o : Option ℕ) → option_and_then {U = ℕ × List ℕ} (λ n. Some (n, rest)) o ≡ None → o ≡ None
no_number rest None is = refl
no_number rest (Some n) is = absurd (none-some _ (sym is))

-- the word before the first space, read another way
module _ (words : List ℕ) (read : List ℕ → Option ℤ) where
  pub missed : ((p : List ℕ × List ℕ) → cut 32 words ≡ Some p → process_of p.0 ≡ None → read p.0 ≡ None) → before process_of words ≡ None → before read words ≡ None
  missed none is =
      elim (cut 32 words) as (λ o. cut 32 words ≡ o → option_and_then (numbered process_of) o ≡ None → option_and_then (numbered read) o ≡ None) [
        | None ↦ λ cuts is. refl
        | Some p ↦ λ cuts is. (rw (none p cuts (no_number p.1 (process_of p.0) is)))
      ] refl is

  pub found : (m : ℕ) (rest : List ℕ) (z : Option ℤ) → before process_of words ≡ Some (m, rest) → ((word : List ℕ) → process_of word ≡ Some m → z ≡ read word)
      → option_and_then (λ n. Some (n, rest)) z ≡ before read words
  found m rest z is same =
      option_and_then_some _ (cut 32 words) (m, rest) is (λ p cuts number.
      option_and_then_some _ (process_of p.0) (m, rest) number (λ n one pair.
      let parts = same_Some _ _ pair in
      rw (cuts, ← same p.0 (one ∙ ap (λ q. Some q.0) parts)) (ap (λ q. option_and_then (λ n. Some (n, q.1)) z) (sym parts))))

-- no word before a space has a minus sign, where there is none
pub unsigned_missed : (words : List ℕ) → IsUnsigned words → before process_of words ≡ None → signed_then words ≡ None
unsigned_missed words plain = missed words signed_of (λ p cuts none.
    let parts = cut-Some 32 words p cuts in
    rw (
      signed_of-plain p.0 (λ long minus. plain (subst (λ l. 0 < length l) (sym parts) (grind (arith, common_steps)))
          (ap (λ l. get_or l 0 0) parts ∙ get_or_append_left p.0 (32 ∷ p.1) 0 0 long ∙ minus)),
      number_below-missing (2 ^ 32) (2 ^ 31) p.0 (lit≤ tt) (lit≤ tt) none,
    ))
