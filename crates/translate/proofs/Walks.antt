-- A walk over the tasks in the order of their numbers.
use Rattle.std.proofs.Common.{◌≡◌, inl, inr, ℕ, zero, suc, ◌+◌, ◌-◌, ◌<◌, ◌≤◌, not, nat_lt, true, false, List, [], ◌∷◌, Option, Some, None, refl, ap, ◌∙◌, arith}
use Rattle.std.specs.Option.{option_map_or}
use Rattle.std.proofs.lemmas.Bool.{cases_eq}
use Rattle.std.proofs.lemmas.Bool.Decides.{nat_tests}
use Rattle.pid_types.specs.declared.plain.Row.{Row}
use Rattle.pid_types.specs.Names.{root_number}
use Rattle.task_table.specs.Store.{Store}
use Rattle.task_table.specs.Collect.{collect}
use Rattle.task_table.specs.View.{row_numbered, state_of}
use Rattle.task_table.specs.Lawful.{IsLawful}
use Rattle.task_table.proofs.LookUps.{keyed}
use Rattle.translate.specs.From.{rows_from}

below : (m n : ℕ) → m < n → not (nat_lt m n) ≡ false
below m n h = grind (arith, nat_tests, h)

not_below : (m n : ℕ) → n ≤ m → not (nat_lt m n) ≡ true
not_below m n h = grind (arith, nat_tests, h)

module _ (f : ℕ → Option Row) (named : (k : ℕ) (r : Row) → f k ≡ Some r → root_number r.name ≡ k) where
  -- those that a look-up finds at this number or above all pass
  all-above : (len i n : ℕ) → n ≤ i → rows_from (collect f i len) n ≡ collect f i len
  all-above zero i n le = refl
  all-above (suc len) i n le = go (f i) (named i) (all-above len (i + 1) n (omega (arith, le)))
    where
      go : (o : Option Row) → ((r : Row) → o ≡ Some r → root_number r.name ≡ i)
          → rows_from (collect f (i + 1) len) n ≡ collect f (i + 1) len
          → rows_from (option_map_or (λ r. r ∷ collect f (i + 1) len) o (collect f (i + 1) len)) n ≡ option_map_or (λ r. r ∷ collect f (i + 1) len) o (collect f (i + 1) len)
      go None is again = again
      go (Some r) is again =
          let e = is r refl in
          let p : not (nat_lt (root_number r.name) n) ≡ true = not_below (root_number r.name) n (omega (arith, le, e)) in
          rw p (ap (λ rs. r ∷ rs) again)

  -- from a number on are those that look-ups find from there
  pub from-found : (len i n : ℕ) → i ≤ n → rows_from (collect f i len) n ≡ collect f n (i + len - n)
  from-found zero i n le = ap (collect f n) (let e : zero ≡ i + zero - n = omega (arith, le) in e)
  from-found (suc len) i n le = elim (cases_eq i n) [
    | inl here ↦
        all-above (suc len) i n (omega (arith, here))
        ∙ ap (λ j. collect f j (suc len)) here
        ∙ ap (collect f n) (let e : suc len ≡ i + suc len - n = omega (arith, here) in e)
    | inr differs ↦ go (f i) (named i) (omega (arith, le, differs)) (from-found len (i + 1) n (omega (arith, le, differs)))
  ]
    where
      go : (o : Option Row) → ((r : Row) → o ≡ Some r → root_number r.name ≡ i) → i < n
          → rows_from (collect f (i + 1) len) n ≡ collect f n (i + 1 + len - n)
          → rows_from (option_map_or (λ r. r ∷ collect f (i + 1) len) o (collect f (i + 1) len)) n ≡ collect f n (i + suc len - n)
      go None is lt again = again ∙ ap (collect f n) (let e : i + 1 + len - n ≡ i + suc len - n = omega arith in e)
      go (Some r) is lt again =
          let e = is r refl in
          let p : not (nat_lt (root_number r.name) n) ≡ false = below (root_number r.name) n (omega (arith, lt, e)) in
          rw p (again ∙ ap (collect f n) (let e : i + 1 + len - n ≡ i + suc len - n = omega arith in e))

-- the tasks of a store's state from a number on
pub rows-walk : (s : Store) → IsLawful s → (n : ℕ) → rows_from (state_of s).rows n ≡ collect (row_numbered s 0) n (s.numbering.pid_max - n)
rows-walk s l n =
    from-found (row_numbered s 0) (λ k r e. keyed s l k r e) s.numbering.pid_max 0 n (omega arith)
    ∙ ap (collect (row_numbered s 0) n) (let e : 0 + s.numbering.pid_max - n ≡ s.numbering.pid_max - n = omega arith in e)

-- from 0 on are all
pub all-from : (rows : List Row) → rows_from rows 0 ≡ rows
all-from [] = refl
all-from (r ∷ rows) =
    let p : not (nat_lt (root_number r.name) 0) ≡ true = not_below (root_number r.name) 0 (omega arith) in
    rw p (ap (λ rs. r ∷ rs) (all-from rows))
