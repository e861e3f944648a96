-- Bytes that follow those that were looked at change nothing of what was found there.
use Rattle.std.proofs.Common.{◌≡◌, ◌≢◌, ℕ, zero, suc, ◌+◌, ◌-◌, ◌*◌, ◌^◌, ◌<◌, ◌≤◌, Bool, true, false, ◌&&◌, List, [], ◌∷◌, ◌++◌, length, take, drop, get_or, refl, ap, sym, inl, inr, subst, ◌∙◌, arith, if◌then◌else◌, ◌==◌}
use Rattle.std.specs.Prelude.{nat_lt, nat_eq}
use Rattle.std.specs.List.{list_all}
use Rattle.std.proofs.lemmas.Bool.Decides.{eqb_tells}
use Rattle.std.proofs.lemmas.Bool.{cases_lt, cases_Bool, true≢false}
use Rattle.std.proofs.lemmas.List.{get_or_append_left, take-append-le, drop-append-le, length-append, length-drop}
use Rattle.saved_form.specs.Form.{sealed, further}
use Rattle.saved_form.specs.Taking.{bodies, blocks_said, AreRight, IsTorn, IsWholeEntry, IsWrongSum, IsWrongAt}
use Rattle.saved_form.specs.Taking.IsWrongAt.{by_sum, too_many_levels, no_entry}
use Rattle.saved_form.specs.Ends.{are_zero, AreZeroes, IsUnwritten, HasWrongByte, IsPassed, IsOpen, undecided, IsTornEnd}
use Rattle.saved_form.specs.Ends.IsOpen.{zeroes_so_far}
use Rattle.saved_form.specs.declared.next.Next.{Next}
use Rattle.saved_form.specs.declared.next.Next.TheVariants.{Entry, End, Open, WrongByte}
use Rattle.saved_form.specs.declared.take.TakenEntry.{TakenEntry}
use Rattle.saved_form.proofs.Said.{said_plain, said_levels, said_none}
use Rattle.saved_form.proofs.Tests.{both_of, to_both}
use Rattle.saved_form.proofs.Whole.{further_few, right_front, torn_not_wrong}

-- the first block says as much with bytes behind it
said_front : (front more : List ℕ) → 48 ≤ length front → blocks_said (front ++ more) ≡ blocks_said front
unfolding blocks_said
said_front front more there =
    let kind : get_or (front ++ more) 3 0 ≡ get_or front 3 0 = get_or_append_left front more 0 3 (omega arith) in
    let count : get_or (front ++ more) 6 0 ≡ get_or front 6 0 = get_or_append_left front more 0 6 (omega arith) in
    (λ i. if (kind i == 3) && nat_lt 33 (count i) then 0 else 1 + further (kind i) (count i))

bodies_front : (count : ℕ) (front more : List ℕ) → 48 * count ≤ length front → bodies count (front ++ more) ≡ bodies count front
unfolding bodies
bodies_front zero front more there = refl
bodies_front (suc count) front more there =
    let first : take 40 (front ++ more) ≡ take 40 front = take-append-le 40 front more (omega arith) in
    let behind : drop 48 (front ++ more) ≡ drop 48 front ++ more = drop-append-le 48 front more (omega arith) in
    (λ i. first i ∷ (ap (bodies count) behind ∙ bodies_front count (drop 48 front) more (omega (arith, length-drop 48 front))) i)

right_with_more : (count sum : ℕ) (front more : List ℕ) → AreRight count sum front → AreRight count sum (front ++ more)
right_with_more count sum front more right = record {
  there = omega (arith, right.there, length-append front more);
  sums = take-append-le (48 * count) front more right.there ∙ right.sums ∙ ap (sealed sum) (sym (bodies_front count front more right.there));
}

right_without_more : (count sum : ℕ) (front more : List ℕ) → 48 * count ≤ length front → AreRight count sum (front ++ more) → AreRight count sum front
right_without_more count sum front more there right = record {
  there = there;
  sums = sym (take-append-le (48 * count) front more there) ∙ right.sums ∙ ap (sealed sum) (bodies_front count front more there);
}

-- the block that is not as it was written is among the bytes
pub wrong_there : (sum place : ℕ) (bytes : List ℕ) → IsWrongAt sum bytes place → place + 48 ≤ length bytes
wrong_there sum _ bytes (by_sum count bad) = omega (arith, bad.there)
wrong_there sum _ bytes (too_many_levels there none) = omega (arith, there)
wrong_there sum _ bytes (no_entry whole) = omega (arith, whole.some, whole.right.there)

-- it is the first such block with bytes behind it too
pub wrong_with_more : (sum place : ℕ) (front more : List ℕ) → IsWrongAt sum front place → IsWrongAt sum (front ++ more) place
wrong_with_more sum _ front more (by_sum count bad) =
    by_sum count (record {
      of_entry = omega (arith, bad.of_entry, said_front front more (omega (arith, bad.there)));
      there = omega (arith, bad.there, length-append front more);
      before = right_with_more count sum front more bad.before;
      wrong = λ right. bad.wrong (right_without_more (count + 1) sum front more bad.there right);
    })
wrong_with_more sum _ front more (too_many_levels there none) =
    too_many_levels (omega (arith, there, length-append front more)) (said_front front more there ∙ none)
wrong_with_more sum _ front more (no_entry whole) =
    let said = said_front front more (omega (arith, whole.some, whole.right.there)) in
    no_entry (record {
      some = omega (arith, said, whole.some);
      right = subst (λ n. AreRight n sum (front ++ more)) (sym said) (right_with_more (blocks_said front) sum front more whole.right);
    })

wrong_sum_one : (sum a b : ℕ) (bytes : List ℕ) → IsWrongSum a sum bytes → IsWrongSum b sum bytes → a < b → ⊥
wrong_sum_one sum a b bytes at other less =
    let split : b ≡ a + 1 + (b - (a + 1)) = omega arith in
    at.wrong (right_front (a + 1) (b - (a + 1)) sum bytes (subst (λ n. AreRight n sum bytes) split other.before))

sum_not_whole : (sum count : ℕ) (bytes : List ℕ) → IsWrongSum count sum bytes → IsWholeEntry sum bytes → ⊥
sum_not_whole sum count bytes bad whole =
    let split : blocks_said bytes ≡ count + 1 + (blocks_said bytes - (count + 1)) = omega (arith, bad.of_entry) in
    bad.wrong (right_front (count + 1) (blocks_said bytes - (count + 1)) sum bytes (subst (λ n. AreRight n sum bytes) split whole.right))

-- there is one first block that is not as it was written
wrong_one : (sum a b : ℕ) (bytes : List ℕ) → IsWrongAt sum bytes a → IsWrongAt sum bytes b → a ≡ b
wrong_one sum _ _ bytes (by_sum a bad) (by_sum b other) =
    elim (cases_lt a b) [
      | inl less ↦ absurd (wrong_sum_one sum a b bytes bad other less)
      | inr more ↦ elim (cases_lt b a) [
        | inl less ↦ absurd (wrong_sum_one sum b a bytes other bad less)
        | inr same ↦ omega arith
      ]
    ]
wrong_one sum _ _ bytes (by_sum a bad) (too_many_levels there none) = absurd (omega (arith, bad.of_entry, none))
wrong_one sum _ _ bytes (by_sum a bad) (no_entry whole) = absurd (sum_not_whole sum a bytes bad whole)
wrong_one sum _ _ bytes (too_many_levels there none) (by_sum b bad) = absurd (omega (arith, bad.of_entry, none))
wrong_one sum _ _ bytes (no_entry whole) (by_sum b bad) = absurd (sum_not_whole sum b bytes bad whole)
wrong_one sum _ _ bytes (too_many_levels there none) (too_many_levels there' none') = refl
wrong_one sum _ _ bytes (too_many_levels there none) (no_entry whole) = refl
wrong_one sum _ _ bytes (no_entry whole) (too_many_levels there none) = refl
wrong_one sum _ _ bytes (no_entry whole) (no_entry whole') = refl

all-append : (f : ℕ → Bool) (xs ys : List ℕ) → list_all f (xs ++ ys) ≡ (list_all f xs && list_all f ys)
all-append f [] ys = refl
all-append f (x ∷ xs) ys = elim (f x) as (λ b. (b && list_all f (xs ++ ys)) ≡ ((b && list_all f xs) && list_all f ys)) [ true ↦ all-append f xs ys | false ↦ refl ]

zeroes-append : (front more : List ℕ) → are_zero (front ++ more) ≡ (are_zero front && are_zero more)
zeroes-append front more = all-append (λ byte. nat_eq byte 0) front more

zeroes_behind : (sum place : ℕ) (front more : List ℕ) → IsWrongAt sum front place
    → are_zero (drop (place + 40) (front ++ more)) ≡ (are_zero (drop (place + 40) front) && are_zero more)
zeroes_behind sum place front more wrong =
    ap are_zero (drop-append-le (place + 40) front more (omega (arith, wrong_there sum place front wrong)))
    ∙ zeroes-append (drop (place + 40) front) more

-- zeroes behind what may be a torn end leave it so
pub unwritten_with_zeroes : (sum : ℕ) (front more : List ℕ) → IsUnwritten sum front → AreZeroes more → IsUnwritten sum (front ++ more)
unwritten_with_zeroes sum front more is zeroes = record {
  place = is.place;
  wrong = wrong_with_more sum is.place front more is.wrong;
  zeroes = zeroes_behind sum is.place front more is.wrong ∙ to_both _ _ is.zeroes zeroes;
}

-- and another byte behind it is a wrong one
pub wrong_with_other : (sum : ℕ) (front more : List ℕ) → IsUnwritten sum front → are_zero more ≡ false → HasWrongByte sum (front ++ more)
wrong_with_other sum front more is other = record {
  place = is.place;
  wrong = wrong_with_more sum is.place front more is.wrong;
  other = λ all. let both = both_of _ _ (sym (zeroes_behind sum is.place front more is.wrong) ∙ all) in true≢false (sym both.1 ∙ other);
}

-- no torn end has a wrong byte
pub torn_end_not_wrong : (sum : ℕ) (bytes : List ℕ) → IsTornEnd sum bytes → HasWrongByte sum bytes → ⊥
torn_end_not_wrong sum bytes (inl torn) has = torn_not_wrong sum torn.0 has.place bytes torn.1 has.wrong
torn_end_not_wrong sum bytes (inr is) has =
    has.other (subst (λ place. AreZeroes (drop (place + 40) bytes)) (wrong_one sum is.place has.place bytes is.wrong has.wrong) is.zeroes)

said_most : (bytes : List ℕ) → blocks_said bytes ≤ 4
said_most bytes =
    elim (eqb_tells (get_or bytes 3 0) 3) [
      | inr away ↦ omega (arith, said_plain bytes away.0)
      | inl at ↦ elim (cases_lt 33 (get_or bytes 6 0)) [
        | inr few ↦ omega (arith, said_levels bytes at.1 few, further_few (get_or bytes 3 0) (get_or bytes 6 0) few)
        | inl many ↦ omega (arith, said_none bytes at.1 many)
      ]
    ]

-- a torn entry has fewer bytes than the longest
pub torn_short : (sum wanted : ℕ) (bytes : List ℕ) → IsTorn sum bytes wanted → length bytes < 192
torn_short sum wanted bytes (inl short) = omega (arith, short.0)
torn_short sum wanted bytes (inr within) = omega (arith, within.0.fewer, said_most bytes)

-- what all bytes from a place on decide where they are 0, and where not, whatever was passed before
pub record IsFrom (sum passed from : ℕ) (bytes : List ℕ) : Type 0 where
  pub room : from ≤ length bytes
  pub zeroes : (before : List ℕ) → IsPassed sum passed before → AreZeroes (drop from bytes) → IsUnwritten sum (before ++ bytes)
  pub other : (before : List ℕ) → IsPassed sum passed before → are_zero (drop from bytes) ≡ false → HasWrongByte sum (before ++ bytes)

unwritten_before : (sum passed : ℕ) (before : List ℕ) → passed ≢ 0 → IsPassed sum passed before → IsUnwritten sum before
unwritten_before sum passed before some is =
    elim is.front [ inl none ↦ absurd (some (is.counted ∙ ap (length {A = ℕ}) none)) | inr front ↦ front ]

-- where some are passed, these follow them
pub from_passed : (sum passed : ℕ) (bytes : List ℕ) → passed ≢ 0 → IsFrom sum passed 0 bytes
from_passed sum passed bytes some = record {
  room = omega arith;
  zeroes = λ before is zeroes. unwritten_with_zeroes sum before bytes (unwritten_before sum passed before some is) zeroes;
  other = λ before is other. wrong_with_other sum before bytes (unwritten_before sum passed before some is) other;
}

pub none_before : (sum passed : ℕ) (before : List ℕ) → passed ≡ 0 → IsPassed sum passed before → before ≡ []
none_before sum passed [] none is = refl
none_before sum passed (x ∷ xs) none is = absurd (omega (arith, none, is.counted))

-- where none are passed, the first block that is not as it was written is here
pub from_wrong : (sum passed place : ℕ) (bytes : List ℕ) → passed ≡ 0 → IsWrongAt sum bytes place → IsFrom sum passed (place + 40) bytes
from_wrong sum passed place bytes none wrong = record {
  room = omega (arith, wrong_there sum place bytes wrong);
  zeroes = λ before is zeroes. subst (λ front. IsUnwritten sum (front ++ bytes)) (sym (none_before sum passed before none is))
      (record { place = place; wrong = wrong; zeroes = zeroes });
  other = λ before is other. subst (λ front. HasWrongByte sum (front ++ bytes)) (sym (none_before sum passed before none is))
      (record { place = place; wrong = wrong; other = λ all. true≢false (sym all ∙ other) });
}

-- what a reader says that passes bytes of which those from a place on decide
pub record Passes (found : Next) (passed from : ℕ) (bytes : List ℕ) (is_end : Bool) : Type 0 where
  pub zeroes : AreZeroes (drop from bytes) → (count : ℕ) × (found ≡ undecided count is_end)
      × (passed + length bytes < 2 ^ 64 → count ≡ passed + length bytes)
  pub other : are_zero (drop from bytes) ≡ false → found ≡ WrongByte

counted_all : (sum passed : ℕ) (before bytes : List ℕ) → IsPassed sum passed before → passed + length bytes ≡ length (before ++ bytes)
counted_all sum passed before bytes is = omega (arith, is.counted, length-append before bytes)

zeroes_not_wrong : (count : ℕ) (is_end : Bool) → undecided count is_end ≡ WrongByte → ⊥
zeroes_not_wrong count true is = cc
zeroes_not_wrong count false is = cc

end_of : (sum passed from : ℕ) (bytes : List ℕ) (is_end : Bool) (found : Next) → IsFrom sum passed from bytes → (count : ℕ) → found ≡ End count
    → AreZeroes (drop from bytes) → (n : ℕ) × (found ≡ undecided n is_end) × (passed + length bytes < 2 ^ 64 → n ≡ passed + length bytes)
    → (is_end ≡ true) × ((before : List ℕ) → IsPassed sum passed before → length (before ++ bytes) < 2 ^ 64
    → (count ≡ length (before ++ bytes)) × IsTornEnd sum (before ++ bytes))
end_of sum passed from bytes false found at count is zeroes said = absurd (let other : End count ≡ Open said.0 = sym is ∙ said.1 in cc)
end_of sum passed from bytes true found at count is zeroes said =
    let same : End count ≡ End said.0 = sym is ∙ said.1 in
    let n : count ≡ said.0 = cc in (
      refl,
      λ before counted few.
          let all : passed + length bytes ≡ length (before ++ bytes) = counted_all sum passed before bytes counted in
          (n ∙ said.2 (omega (arith, all, few)) ∙ all, inr (at.zeroes before counted zeroes)),
    )

open_of : (sum passed from : ℕ) (bytes : List ℕ) (is_end : Bool) (found : Next) → IsFrom sum passed from bytes → (count : ℕ) → found ≡ Open count
    → AreZeroes (drop from bytes) → (n : ℕ) × (found ≡ undecided n is_end) × (passed + length bytes < 2 ^ 64 → n ≡ passed + length bytes)
    → (is_end ≡ false) × ((before : List ℕ) → IsPassed sum passed before → length (before ++ bytes) < 2 ^ 64 → IsOpen sum before bytes count)
open_of sum passed from bytes true found at count is zeroes said = absurd (let other : Open count ≡ End said.0 = sym is ∙ said.1 in cc)
open_of sum passed from bytes false found at count is zeroes said =
    let same : Open count ≡ Open said.0 = sym is ∙ said.1 in
    let n : count ≡ said.0 = cc in (
      refl,
      λ before counted few.
          let all : passed + length bytes ≡ length (before ++ bytes) = counted_all sum passed before bytes counted in
          let whole : count ≡ length (before ++ bytes) = n ∙ said.2 (omega (arith, all, few)) ∙ all in
          let unwritten = at.zeroes before counted zeroes in
          zeroes_so_far count (omega (arith, whole, wrong_there sum unwritten.place (before ++ bytes) unwritten.wrong))
          (record { counted = whole; front = inr unwritten }),
    )

zeroes_no_entry : (count : ℕ) (is_end : Bool) (taken : TakenEntry) → undecided count is_end ≡ Entry taken → ⊥
zeroes_no_entry count true taken is = cc
zeroes_no_entry count false taken is = cc

pub passes_no_entry : (passed from : ℕ) (bytes : List ℕ) (is_end : Bool) (found : Next) → Passes found passed from bytes is_end
    → (taken : TakenEntry) → found ≡ Entry taken → ⊥
passes_no_entry passed from bytes is_end found passes taken is =
    elim (cases_Bool (are_zero (drop from bytes))) [
      | inl zeroes ↦ let said = passes.zeroes zeroes in zeroes_no_entry said.0 is_end taken (sym said.1 ∙ is)
      | inr other ↦ let wrong : found ≡ WrongByte = passes.other other in cc
    ]

pub passes_wrong : (sum passed from : ℕ) (bytes : List ℕ) (is_end : Bool) (found : Next) → IsFrom sum passed from bytes
    → Passes found passed from bytes is_end → found ≡ WrongByte → (before : List ℕ) → IsPassed sum passed before → HasWrongByte sum (before ++ bytes)
passes_wrong sum passed from bytes is_end found at passes is before counted =
    elim (cases_Bool (are_zero (drop from bytes))) [
      | inl zeroes ↦ let said = passes.zeroes zeroes in absurd (zeroes_not_wrong said.0 is_end (sym said.1 ∙ is))
      | inr other ↦ at.other before counted other
    ]

pub passes_torn : (sum passed from : ℕ) (bytes : List ℕ) (is_end : Bool) (found : Next) → IsFrom sum passed from bytes
    → Passes found passed from bytes is_end → (before : List ℕ) → IsPassed sum passed before → IsTornEnd sum (before ++ bytes) → found ≡ WrongByte → ⊥
passes_torn sum passed from bytes is_end found at passes before counted torn is =
    torn_end_not_wrong sum (before ++ bytes) torn (passes_wrong sum passed from bytes is_end found at passes is before counted)

pub passes_end : (sum passed from : ℕ) (bytes : List ℕ) (is_end : Bool) (found : Next) → IsFrom sum passed from bytes
    → Passes found passed from bytes is_end → (count : ℕ) → found ≡ End count → (is_end ≡ true)
    × ((before : List ℕ) → IsPassed sum passed before → length (before ++ bytes) < 2 ^ 64
    → (count ≡ length (before ++ bytes)) × IsTornEnd sum (before ++ bytes))
passes_end sum passed from bytes is_end found at passes count is =
    elim (cases_Bool (are_zero (drop from bytes))) [
      | inl zeroes ↦ end_of sum passed from bytes is_end found at count is zeroes (passes.zeroes zeroes)
      | inr other ↦ absurd (let wrong : found ≡ WrongByte = passes.other other in cc)
    ]

pub passes_open : (sum passed from : ℕ) (bytes : List ℕ) (is_end : Bool) (found : Next) → IsFrom sum passed from bytes
    → Passes found passed from bytes is_end → (count : ℕ) → found ≡ Open count → (is_end ≡ false)
    × ((before : List ℕ) → IsPassed sum passed before → length (before ++ bytes) < 2 ^ 64 → IsOpen sum before bytes count)
passes_open sum passed from bytes is_end found at passes count is =
    elim (cases_Bool (are_zero (drop from bytes))) [
      | inl zeroes ↦ open_of sum passed from bytes is_end found at count is zeroes (passes.zeroes zeroes)
      | inr other ↦ absurd (let wrong : found ≡ WrongByte = passes.other other in cc)
    ]
