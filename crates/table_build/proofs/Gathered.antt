-- The rows of a store, of which those of the lines are known.
use Rattle.std.proofs.Common.{◌≡◌, ◌≢◌, inl, inr, ℕ, zero, suc, ◌+◌, ◌<◌, ◌≤◌, Bool, true, false, List, [], ◌∷◌, length, map, slice_get, Option, Some, None, refl, sym, ap, ◌∙◌, arith, option_map}
use Rattle.std.specs.Option.{option_map_or}
use Rattle.std.proofs.lemmas.List.{length-reverse}
use Rattle.pid_types.specs.declared.plain.Name.{Name}
use Rattle.pid_types.specs.declared.plain.Row.{Row}
use Rattle.pid_types.specs.State.{root_name}
use Rattle.pid_numbers.specs.Numbering.{number_of}
use Rattle.pid_types.specs.Membership.{IsIn}
use Rattle.pid_types.specs.Names.{root_number}
use Rattle.pid_types.specs.Sound.{IsRising}
use Rattle.task_table.specs.Store.{Store}
use Rattle.task_table.specs.Collect.{collect}
use Rattle.task_table.specs.View.{name_of, name_at, row_of, row_with, row_numbered, state_of}
use Rattle.task_table.specs.Lawful.{IsLawful}
use Rattle.task_table.proofs.LookUps.{named, root-number, row-from, rooted, keyed}
use Rattle.table_build.proofs.Steps.{task-of}
use Rattle.table_build.specs.declared.placed.Placed.{Placed}
use Rattle.table_build.specs.Lines.{AreLines, is_held}
use Rattle.table_build.proofs.Places.{at_place, below_length, place_of}
use Rattle.table_build.specs.Sorted.{IsNotBelow}

abbrev number_of_row : Row → ℕ
number_of_row r = root_number r.name

in_map : (r : Row) (rows : List Row) → IsIn r rows → IsIn (number_of_row r) (map number_of_row rows)
in_map r [] i = absurd i
in_map r (x ∷ xs) (inl same) = inl (ap number_of_row same)
in_map r (x ∷ xs) (inr i) = inr (in_map r xs i)

-- the rows of a list have numbers from the one on, so many at most, and the look-up finds them there
abbrev AreFound : (ℕ → Option Row) → ℕ → ℕ → List Row → Type 0
AreFound f from len rows = (r : Row) → IsIn r rows → (from ≤ number_of_row r) × (number_of_row r < from + len) × (f (number_of_row r) ≡ Some r)

-- and it finds no others from there on
abbrev AreAll : (ℕ → Option Row) → ℕ → List Row → Type 0
AreAll f from rows = (n : ℕ) (r : Row) → from ≤ n → f n ≡ Some r → IsIn r rows × (number_of_row r ≡ n)

-- so the list is what is collected
abbrev IsGathered : (ℕ → Option Row) → ℕ → ℕ → Type 0
IsGathered f from len = (rows : List Row) → IsRising (map number_of_row rows) → AreFound f from len rows → AreAll f from rows → collect f from len ≡ rows

-- what is found at the numbers of a rising list, and at no other number, is that list
pub gathered : (f : ℕ → Option Row) (rows : List Row) (from len : ℕ) → IsRising (map number_of_row rows) → AreFound f from len rows → AreAll f from rows → collect f from len ≡ rows
gathered f [] from zero rise there back = refl
gathered f (r ∷ rs) from zero rise there back = absurd (let t = there r (inl refl) in let a = t.0 in let b = t.1 in omega (arith, a, b))
gathered f rows from (suc len) rise there back = go (λ rs r t b. gathered f rs (from + 1) len r t b) (f from) refl
  where
    none : f from ≡ None → AreFound f (from + 1) len rows
    none e r i =
        let t = there r i in
        let not : from ≢ number_of_row r = (λ same. let z : None ≡ Some r = sym e ∙ ap f same ∙ t.2 in cc) in
        (let a = t.0 in omega (arith, a, not), let b = t.1 in omega (arith, b), t.2)

    found : IsGathered f (from + 1) len → (x : Row) → f from ≡ Some x → (rows : List Row) → IsRising (map number_of_row rows) → AreFound f from (suc len) rows → AreAll f from rows → x ∷ collect f (from + 1) len ≡ rows
    found again x e [] rise there back = absurd (back from x (omega arith) e).0
    found again x e (r ∷ rs) rise there back =
        let b = back from x (omega arith) e in
        let same = head b.0 b.1 in
        ap (λ y. y ∷ collect f (from + 1) len) same
        ∙ ap (λ ys. r ∷ ys) (again rs rise.1
        (λ y i. let t = there y (inr i) in let up = rise.0 (number_of_row y) (in_map y rs i) in let low = (there r (inl refl)).0 in
        (omega (arith, up, low), let c = t.1 in omega (arith, c), t.2))
        (λ n y above at. let d = back n y (omega (arith, above)) at in (later n y above d.0 d.1 (sym (ap number_of_row same) ∙ b.1), d.1)))
      where
        head : IsIn x (r ∷ rs) → number_of_row x ≡ from → x ≡ r
        head (inl same) at = same
        head (inr i) at = absurd (let up = rise.0 (number_of_row x) (in_map x rs i) in let low = (there r (inl refl)).0 in omega (arith, up, low, at))

        later : (n : ℕ) (y : Row) → from + 1 ≤ n → IsIn y (r ∷ rs) → number_of_row y ≡ n → number_of_row r ≡ from → IsIn y rs
        later n y above (inr i) at first = i
        later n y above (inl same) at first = absurd (let z = sym (ap number_of_row same) ∙ at in omega (arith, above, z, first))

    go : IsGathered f (from + 1) len → (o : Option Row) → f from ≡ o → option_map_or (λ x. x ∷ collect f (from + 1) len) o (collect f (from + 1) len) ≡ rows
    go again None e = again rows rise (none e) (λ n r above at. back n r (omega (arith, above)) at)
    go again (Some x) e = found again x e rows rise there back

-- each is below the next, so below all that follow
rising : (rows : List Row) → ((i : ℕ) (a b : Row) → slice_get rows i ≡ Some a → slice_get rows (suc i) ≡ Some b → number_of_row a < number_of_row b) → IsRising (map number_of_row rows)
rising [] next = tt
rising (r ∷ rs) next = (over rs (λ b e. next 0 r b refl e) (rising rs (λ i a b x y. next (suc i) a b x y)), rising rs (λ i a b x y. next (suc i) a b x y))
  where
    over : (rs : List Row) → ((b : Row) → slice_get rs 0 ≡ Some b → number_of_row r < number_of_row b) → IsRising (map number_of_row rs) → (m : ℕ) → IsIn m (map number_of_row rs) → number_of_row r < m
    over [] first rise m i = absurd i
    over (b ∷ bs) first rise m (inl e) = let up = first b refl in omega (arith, up, e)
    over (b ∷ bs) first rise m (inr i) = let up = first b refl in let more = rise.0 m i in omega (arith, up, more)

key_in : (keys : List ℕ) (j : ℕ) → j < length keys → (k : ℕ) × (slice_get keys j ≡ Some k)
key_in [] j lt = absurd (omega (arith, lt))
key_in (k ∷ ks) zero lt = (k, refl)
key_in (k ∷ ks) (suc j) lt = key_in ks j (omega (arith, lt))

module _ (s : Store) (l : IsLawful s) (p : Placed) (rows : List Row) (lines : AreLines s p (slice_get rows)) (few : length p.keys.items ≡ length rows)
    (gone : (k : ℕ) → is_held p k ≡ true → row_with s k ≡ None) (rise : IsRising (map number_of_row rows)) where
  there : AreFound (row_numbered s 0) 0 s.numbering.pid_max rows
  there r i =
      let j = place_of rows r i in
      let k = key_in p.keys.items j.0 (let lt = j.2 in omega (arith, lt, few)) in
      let line = lines.each j.0 k.0 k.1 in
      let same : line.0 ≡ r = (let z = sym line.1 ∙ j.1 in let y : line.0 ≡ r = cc in y) in
      let t = task-of s k.0 r (line.2.shown ∙ ap Some same) in
      let at = rooted s l k.0 t.0 t.1 in
      let name : root_number (name_at s.numbering k.0) ≡ number_of_row r = ap number_of_row t.2 in
      (omega arith, (let b = at.1 in omega (arith, b, name)), ap (row_numbered s 0) (sym name) ∙ at.0 ∙ ap Some t.2)

  back : AreAll (row_numbered s 0) 0 rows
  back n r above e =
      let f = row-from s l 0 n r e in
      let shown : row_with s f.0 ≡ Some r = ap (option_map (row_of s f.0)) f.2 ∙ ap Some (sym f.4) in
      (listed f.0 shown (is_held p f.0) refl, keyed s l n r e)
    where
      listed : (k : ℕ) → row_with s k ≡ Some r → (b : Bool) → is_held p k ≡ b → IsIn r rows
      listed k shown true held = absurd (let z : None ≡ Some r = sym (gone k held) ∙ shown in cc)
      listed k shown false real =
          let j = lines.all k r (record { shown = shown; real = real }) in
          let line = lines.each j.0 k j.1 in
          let same : line.0 ≡ r = (let z = sym line.2.shown ∙ shown in let y : line.0 ≡ r = cc in y) in
          at_place rows j.0 r (line.1 ∙ ap Some same)

  -- they are all its rows
  pub rows-are : (state_of s).rows ≡ rows
  rows-are = gathered (row_numbered s 0) rows 0 s.numbering.pid_max rise there back

-- the numbers of the lines rise where none is below the one before it
module _ (s : Store) (l : IsLawful s) (p : Placed) (rows : List Row) (lines : AreLines s p (slice_get rows)) (few : length p.keys.items ≡ length rows) where
  line_of : (j : ℕ) (r : Row) → slice_get rows j ≡ Some r → (k : ℕ) × (slice_get p.keys.items j ≡ Some k) × (row_with s k ≡ Some r)
  line_of j r e =
      let k = key_in p.keys.items j (let lt = below_length rows j r e in omega (arith, lt, few)) in
      let line = lines.each j k.0 k.1 in
      let same : line.0 ≡ r = (let z = sym line.1 ∙ e in let y : line.0 ≡ r = cc in y) in
      (k.0, k.1, line.2.shown ∙ ap Some same)

  numbered : (k : ℕ) (r : Row) → row_with s k ≡ Some r → (number_of s.numbering k 0 ≡ Some (number_of_row r)) × (0 < length r.name.numbers.items)
  numbered k r e =
      let t = task-of s k r e in
      let u = named s l k t.0 t.1 in
      let some = (l.numbering.full k u.0 u.1).0 in
      let long = length-reverse u.0.numbers in
      let name : name_of s.numbering u.0 ≡ r.name = sym (ap (λ o. option_map_or (name_of s.numbering) o root_name) u.1) ∙ ap (λ (x : Row). x.name) t.2 in
      (root-number s l k u.0 u.1 ∙ ap (λ (x : Row). Some (number_of_row x)) t.2, let z = ap (λ (n : Name). length n.numbers.items) name in omega (arith, some, long, z))

  next_above : ((j : ℕ) → j < length rows → IsNotBelow rows j) → (i : ℕ) (a b : Row) → slice_get rows i ≡ Some a → slice_get rows (suc i) ≡ Some b → number_of_row a < number_of_row b
  next_above sorted i a b x y =
      let m = line_of i a x in
      let n = line_of (suc i) b y in
      let at_m = numbered m.0 a m.2 in
      let at_n = numbered n.0 b n.2 in
      let up = sorted (suc i) (below_length rows (suc i) b y) i a b refl x y at_m.1 at_n.1 in
      let differs : number_of_row a ≢ number_of_row b = (λ same.
      let key : m.0 ≡ n.0 = l.numbering.distinct m.0 n.0 0 (number_of_row b) (at_m.0 ∙ ap Some same) at_n.0 in
      let place : i ≡ suc i = lines.apart i (suc i) n.0 (m.1 ∙ ap Some key) n.1 in
      omega (arith, place)) in
      omega (arith, up, differs)

  pub rows-rise : ((j : ℕ) → j < length rows → IsNotBelow rows j) → IsRising (map number_of_row rows)
  rows-rise sorted = rising rows (next_above sorted)
