-- The least number, found by a walk over a list.
use Rattle.std.proofs.Common.{◌≡◌, ℕ, ◌+◌, ◌<◌, Bool, true, false, List, [], ◌∷◌, ◌++◌, length, take, get_or, filter, Option, Some, None, refl, ap, ◌∙◌, arith, inl, inr}
use Rattle.std.specs.Prelude.{nat_lt, option_and_then, filter_map, if◌then◌else◌}
use Rattle.std.specs.Option.{option_map_or}
use Rattle.std.specs.List.{cons_option}
use Rattle.std.proofs.lemmas.Bool.{cases_Bool}
use Rattle.std.proofs.lemmas.Bool.Decides.{nat_tests}
use Rattle.std.proofs.lemmas.List.{take_more, append-nil}
use Rattle.std.proofs.lemmas.List.Elements.{filter_map-append}
use Rattle.pid_types.specs.Chains.{least_of}
use Rattle.plain_table.specs.Least.{lesser_number}

-- the least of three is the same whichever two are compared first
lesser_number-three : (m y n : ℕ)
    → option_map_or (λ k. if nat_lt k y then k else y) (Some (lesser_number (Some m) n)) y ≡ lesser_number (Some (if nat_lt m y then m else y)) n
lesser_number-three m y n = elim (cases_Bool (nat_lt n m)) [
  | inl nm ↦ elim (cases_Bool (nat_lt m y)) [
    | inl my ↦ let ny : nat_lt n y ≡ true = grind (arith, nat_tests) in rw (nm, my, ny, nm) refl
    | inr my ↦ rw (nm, my) refl
  ]
  | inr nm ↦ elim (cases_Bool (nat_lt m y)) [
    | inl my ↦ rw (nm, my, nm) refl
    | inr my ↦ let ny : nat_lt n y ≡ false = grind (arith, nat_tests) in rw (nm, my, ny) refl
  ]
]

-- one more number is compared with the least of those before it
pub least_of-snoc : (ns : List ℕ) (n : ℕ) → least_of (ns ++ n ∷ []) ≡ Some (lesser_number (least_of ns) n)
least_of-snoc [] n = refl
least_of-snoc (y ∷ ns) n = rw (least_of-snoc ns n) (ap Some (cases (least_of ns)))
  where
    cases : (o : Option ℕ) → option_map_or (λ k. if nat_lt k y then k else y) (Some (lesser_number o n)) y ≡ lesser_number (Some (option_map_or (λ k. if nat_lt k y then k else y) o y)) n
    cases None = refl
    cases (Some m) = lesser_number-three m y n

-- a walk over a row that gives a number, and over one that gives none
pub least_of-gives : {A : Type 0} → (f : A → Option ℕ) (rows : List A) (i : ℕ) (row : A) (n : ℕ) → i < length rows → row ≡ get_or rows i row → f row ≡ Some n
    → least_of (filter_map f (take (i + 1) rows)) ≡ Some (lesser_number (least_of (filter_map f (take i rows))) n)
least_of-gives f rows i row n below is gives =
    rw (take_more rows i row below, ← is, filter_map-append, gives) (least_of-snoc (filter_map f (take i rows)) n)

pub least_of-skips : {A : Type 0} → (f : A → Option ℕ) (rows : List A) (i : ℕ) (row : A) → i < length rows → row ≡ get_or rows i row → f row ≡ None
    → least_of (filter_map f (take (i + 1) rows)) ≡ least_of (filter_map f (take i rows))
least_of-skips f rows i row below is gives = rw (take_more rows i row below, ← is, filter_map-append, gives, append-nil) refl

filter-cons_option : (p : ℕ → Bool) (o : Option ℕ) (ns : List ℕ) → filter p (cons_option o ns) ≡ cons_option (option_and_then (λ n. if p n then Some n else None) o) (filter p ns)
filter-cons_option p None ns = refl
filter-cons_option p (Some n) ns = elim (cases_Bool (p n)) [ inl e ↦ rw e refl | inr e ↦ rw e refl ]

-- the numbers that pass are those that pass at each row
pub filter-filter_map : {A : Type 0} → (p : ℕ → Bool) (f : A → Option ℕ) (rows : List A) → filter p (filter_map f rows) ≡ filter_map (λ row. option_and_then (λ n. if p n then Some n else None) (f row)) rows
filter-filter_map p f [] = refl
filter-filter_map p f (row ∷ rows) = filter-cons_option p (f row) (filter_map f rows) ∙ ap (cons_option (option_and_then (λ n. if p n then Some n else None) (f row))) (filter-filter_map p f rows)
