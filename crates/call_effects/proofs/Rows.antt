-- Each row is watched, or stays with its relations.
use Rattle.std.proofs.Common.{◌≡◌, ◌⊎◌, inl, inr, ℕ, Bool, true, false, List, map, Option, Some, None, option_map, refl, sym, ap, subst, ◌∙◌}
use Rattle.pid_types.specs.declared.plain.Row.{Row}
use Rattle.pid_types.specs.Chains.{contains}
use Rattle.pid_types.specs.Membership.{IsIn}
use Rattle.pid_types.specs.Names.{root_number, row_at}
use Rattle.pid_types.specs.Sound.{IsRising}
use Rattle.pid_types.specs.State.{State}
use Rattle.model_laws.proofs.Lists.{IsIn-from_contains, IsIn-from_map, contains-from_IsIn}
use Rattle.model_laws.proofs.Trees.{row_at-listed, row_at-Some}
use Rattle.translate.specs.Relations.{relations_of, relations_at}
use Rattle.translate.specs.declared.relations.Relations.{Relations}
use Rattle.call_effects.specs.declared.tasks.Watched.{Watched}
use Rattle.call_effects.specs.Touched.{Touches, AreWatched}

-- the row of one with relations
pub row_of : (rows : List Row) (n : ℕ) (r : Relations) → relations_at rows n ≡ Some r → (row : Row) × (row_at rows n ≡ Some row) × (r ≡ relations_of row)
row_of rows n r e = go (row_at rows n) refl e
  where
    go : (o : Option Row) → row_at rows n ≡ o → option_map relations_of o ≡ Some r → (row : Row) × (row_at rows n ≡ Some row) × (r ≡ relations_of row)
    go None is e = absurd (cc)
    go (Some row) is e = (row, is, (let z : r ≡ relations_of row = cc in z))

-- the row of one that is watched
pub record IsWatchedRow (tasks : List Watched) (row : Row) : Type 0 where
  pub watched : Watched
  pub listed : IsIn watched tasks
  pub number : watched.number ≡ root_number row.name
  pub before : watched.before ≡ relations_of row

-- a row with the number and the relations of the other
pub record StaysAs (rows : List Row) (row : Row) : Type 0 where
  pub now : Row
  pub there : IsIn now rows
  pub number : root_number now.name ≡ root_number row.name
  pub same : relations_of now ≡ relations_of row

module _ (old : State) (rise : IsRising (map (λ (r : Row). root_number r.name) old.rows)) (numbers : List ℕ) (tasks : List Watched) (watched : AreWatched old numbers tasks) where
  -- the task with a number is watched
  pub with_number : (row : Row) → IsIn row old.rows → IsIn (root_number row.name) numbers → IsWatchedRow tasks row
  with_number row i on =
      let m = IsIn-from_map (λ (w : Watched). w.number) (root_number row.name) tasks (subst (IsIn (root_number row.name)) (sym watched.numbered) on) in
      let at : relations_at old.rows (root_number row.name) ≡ Some (relations_of row) = ap (option_map relations_of) (row_at-listed old.rows rise row i) in
      record {
        watched = m.0;
        listed = m.1;
        number = sym m.2;
        before = (let z : Some m.0.before ≡ Some (relations_of row) = sym (watched.before m.0 m.1) ∙ ap (relations_at old.rows) (sym m.2) ∙ at in cc);
      }

  -- who is watched has a row
  pub row_of_watched : (w : Watched) → IsIn w tasks → (row : Row) × IsIn row old.rows × (w.number ≡ root_number row.name) × (w.before ≡ relations_of row)
  row_of_watched w i =
      let r = row_of old.rows w.number w.before (watched.before w i) in
      let at = row_at-Some old.rows w.number r.0 r.1 in
      (r.0, at.0, sym at.1, r.2)

  pub either : (new : State) → Touches old new numbers → (row : Row) → IsIn row old.rows → IsWatchedRow tasks row ⊎ StaysAs new.rows row
  either new touches row i = go (contains numbers (root_number row.name)) refl
    where
      go : (b : Bool) → contains numbers (root_number row.name) ≡ b → IsWatchedRow tasks row ⊎ StaysAs new.rows row
      go true is = inl (with_number row i (IsIn-from_contains numbers (root_number row.name) is))
      go false is =
          let r = row_of new.rows (root_number row.name) (relations_of row)
          (touches.rest row i (λ on. let z : true ≡ false = sym (contains-from_IsIn numbers (root_number row.name) on) ∙ is in absurd (cc))) in
          let at = row_at-Some new.rows (root_number row.name) r.0 r.1 in
          inr (record { now = r.0; there = at.0; number = at.1; same = sym r.2 })
