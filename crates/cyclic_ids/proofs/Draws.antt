use Rattle.std.proofs.Common.{ℕ, ◌≡◌, ◌≢◌, ◌<◌, ◌≤◌, max, sym, ap, ◌∙◌, arith, lit≤, refl, inl, inr, List, Bool, if◌then◌else◌, true, false, not, Option, Some, None, is_some, IfSome, cond}
use Rattle.std.specs.Prelude.{nat_lt}
use Rattle.std.proofs.Math.Bool.{not-not}
use Rattle.std.proofs.lemmas.Bool.{cases_eq, false_from_ne_true, true_from_ne_false, false≢true, ltb-true}
use Rattle.std.proofs.lemmas.Bool.Decides.{nat_tests}
use Rattle.index_array.specs.Place.{Place, Entry, entry_at, indexes, with_mark, IsLeastIndex, WritesEntry, KeepsEntries}
use Rattle.index_array.proofs.Indexes.{contains_indexes}
use Rattle.pid_types.specs.Chains.{contains}
use Rattle.pid_types.specs.Draw.{least_free, restart, cyclic_draw}
use Rattle.cyclic_ids.specs.Ids.{AreInRange}
use Rattle.pid_types.proofs.LeastFree.{least_free-found, least_free-IsLeastFree, draw-Some}

-- a gap that was found is the least free number
module _ {T : Type 0} (ps : List (Place T)) where
  taken_at : (m : ℕ) → not (is_some (entry_at ps m)) ≡ false → contains (indexes ps) m ≡ true
  taken_at m e = contains_indexes ps m ∙ sym (not-not (is_some (entry_at ps m))) ∙ ap not e

  free_at : (m : ℕ) → not (is_some (entry_at ps m)) ≡ true → contains (indexes ps) m ≡ false
  free_at m e = contains_indexes ps m ∙ sym (not-not (is_some (entry_at ps m))) ∙ ap not e

  pub gap_found : (from end b : ℕ) → IsLeastIndex (λ k. not (is_some (entry_at ps k))) from end (Some b) → b ≡ least_free (indexes ps) from
  gap_found from end b gap = least_free-found (indexes ps) from b gap.0 (λ m low high. taken_at m (gap.3 m low high)) (free_at b gap.2)

  -- and where none was found there is none below the end
  pub gap_none : (from end : ℕ) → IsLeastIndex (λ k. not (is_some (entry_at ps k))) from end None → nat_lt (least_free (indexes ps) from) end ≡ false
  gap_none from end none =
      let least = least_free-IsLeastFree (indexes ps) from in
      false_from_ne_true (nat_lt (least_free (indexes ps) from) end) (λ below. false≢true (sym least.absent ∙ taken_at (least_free (indexes ps) from) (none (least_free (indexes ps) from) least.from (ltb-true _ _ below))))

  drawn_below : (a b end : ℕ) → b ≡ a → b < end → nat_lt a end ≡ true
  drawn_below a b end e below = true_from_ne_false (nat_lt a end) (λ off. (let past : end ≤ a = grind (arith, nat_tests, off) in absurd (omega (arith, e, below, past))))

  -- what is drawn from one place on
  pub from_one : (from end : ℕ) (r : Option ℕ) → IsLeastIndex (λ k. not (is_some (entry_at ps k))) from end r → r ≡ cond (nat_lt (least_free (indexes ps) from) end) (Some (least_free (indexes ps) from)) None
  from_one from end None none =
      sym (ap (λ t. cond t (Some (least_free (indexes ps) from)) None) (gap_none from end none))
  from_one from end (Some b) gap =
      ap Some (gap_found from end b gap) ∙ sym (ap (λ t. cond t (Some (least_free (indexes ps) from)) None) (drawn_below (least_free (indexes ps) from) b end (gap_found from end b gap) gap.1))

  -- a gap from the cursor on, below the bound, is the number that is drawn
  pub upper_drawn : (pid_max cursor b : ℕ) → IsLeastIndex (λ k. not (is_some (entry_at ps k))) (max cursor (restart cursor)) pid_max (Some b) → Some b ≡ cyclic_draw pid_max cursor (indexes ps)
  unfolding cyclic_draw
  upper_drawn pid_max cursor b gap =
      let upper = least_free (indexes ps) (max cursor (restart cursor)) in
      let lower = least_free (indexes ps) (restart cursor) in
      let found : b ≡ upper = gap_found (max cursor (restart cursor)) pid_max b gap in
      ap Some found ∙ sym (ap (λ t. cond t (Some upper) (cond (nat_lt lower pid_max) (Some lower) None)) (drawn_below upper b pid_max found gap.1))

  -- and else what is found from the restart on
  pub lower_drawn : (pid_max cursor : ℕ) (r : Option ℕ) → IsLeastIndex (λ k. not (is_some (entry_at ps k))) (max cursor (restart cursor)) pid_max None → IsLeastIndex (λ k. not (is_some (entry_at ps k))) (restart cursor) pid_max r → r ≡ cyclic_draw pid_max cursor (indexes ps)
  unfolding cyclic_draw
  lower_drawn pid_max cursor r none gap =
      let upper = least_free (indexes ps) (max cursor (restart cursor)) in
      let lower = least_free (indexes ps) (restart cursor) in
      from_one (restart cursor) pid_max r gap ∙ sym (ap (λ t. cond t (Some upper) (cond (nat_lt lower pid_max) (Some lower) None)) (gap_none (max cursor (restart cursor)) pid_max none))

-- a draw sees which numbers are in the list, and not their order
pub least_free-same : (ns ms : List ℕ) → ((n : ℕ) → contains ns n ≡ contains ms n) → (from : ℕ) → least_free ns from ≡ least_free ms from
least_free-same ns ms same from =
    let least = least_free-IsLeastFree ns from in
    least_free-found ms from (least_free ns from) least.from (λ m low high. sym (same m) ∙ least.least m low high) (sym (same (least_free ns from)) ∙ least.absent)

pub cyclic_draw-same : (pid_max cursor : ℕ) (ns ms : List ℕ) → ((n : ℕ) → contains ns n ≡ contains ms n) → cyclic_draw pid_max cursor ns ≡ cyclic_draw pid_max cursor ms
unfolding cyclic_draw
cyclic_draw-same pid_max cursor ns ms same =
    let upper = least_free-same ns ms same (max cursor (restart cursor)) in
    let lower = least_free-same ns ms same (restart cursor) in
    ap (λ u. cond (nat_lt u pid_max) (Some u) (cond (nat_lt (least_free ns (restart cursor)) pid_max) (Some (least_free ns (restart cursor))) None)) upper ∙ ap (λ l. cond (nat_lt (least_free ms (max cursor (restart cursor))) pid_max) (Some (least_free ms (max cursor (restart cursor)))) (cond (nat_lt l pid_max) (Some l) None)) lower

-- so it stays where the entries stay
pub planned-same : {T : Type 0} (pid_max cursor : ℕ) (old new : List (Place T)) → KeepsEntries old new → cyclic_draw pid_max cursor (indexes new) ≡ cyclic_draw pid_max cursor (indexes old)
planned-same pid_max cursor old new keeps =
    cyclic_draw-same pid_max cursor (indexes new) (indexes old) (λ n. contains_indexes new n ∙ ap is_some (keeps n) ∙ sym (contains_indexes old n))

-- what is drawn is below the bound
pub drawn-below : (pid_max cursor : ℕ) (ns : List ℕ) (r : Option ℕ) → r ≡ cyclic_draw pid_max cursor ns → IfSome r (λ n. n < pid_max)
drawn-below pid_max cursor ns None e = tt
drawn-below pid_max cursor ns (Some n) e = (draw-Some pid_max cursor ns n (sym e)).2

-- a draw never starts at 0
restart_above : (cursor : ℕ) → 1 ≤ restart cursor
restart_above cursor = go (nat_lt 300 cursor)
  where
    go : (b : Bool) → 1 ≤ (if b then 300 else 1)
    go true = lit≤ tt
    go false = lit≤ tt

-- so what is drawn is the number of a process
pub drawn-range : (pid_max cursor : ℕ) (ns : List ℕ) (n : ℕ) → cyclic_draw pid_max cursor ns ≡ Some n → (1 ≤ n) × (n < pid_max)
drawn-range pid_max cursor ns n e =
    let drawn = draw-Some pid_max cursor ns n e in
    let low = restart_above cursor in
    (omega (arith, low, drawn.1), drawn.2)

pub drawn-above : (pid_max cursor : ℕ) (ns : List ℕ) (r : Option ℕ) → r ≡ cyclic_draw pid_max cursor ns → IfSome r (λ n. 1 ≤ n)
drawn-above pid_max cursor ns None e = tt
drawn-above pid_max cursor ns (Some n) e = (drawn-range pid_max cursor ns n (sym e)).0

-- numbers stay in range where one is written that is in range, or was in use
pub range_written : {T : Type 0} (pid_max n : ℕ) (old new : List (Place T)) (e : Option (Entry T)) → AreInRange pid_max old → WritesEntry old new n e → (e ≢ None → (1 ≤ n) × (n < pid_max)) → AreInRange pid_max new
range_written pid_max n old new e range writes here m some = elim (cases_eq m n) [
  | inl same ↦ rw same (here (λ none. some (ap (entry_at new) same ∙ writes.here ∙ none)))
  | inr other ↦ range m (λ none. some (writes.others m other ∙ none))
]

-- a mark makes no entry
pub marked_some : {T : Type 0} (m : ℕ) (on : Bool) (o : Option (Entry T)) → with_mark m on o ≢ None → o ≢ None
marked_some m on None some none = some refl
marked_some m on (Some e) some none = cc
