-- The rows that are written are such as a text is read of.
use Rattle.std.proofs.Common.{◌≡◌, inl, inr, ℕ, ◌∷◌, map, not, refl, sym, subst}
use Rattle.std.specs.Prelude.{nat_lt}
use Rattle.pid_types.specs.declared.plain.Row.{Row}
use Rattle.pid_types.specs.Membership.{IsIn}
use Rattle.pid_types.specs.Names.{root_number}
use Rattle.pid_types.specs.Shown.{with_count}
use Rattle.pid_types.specs.Sound.{IsSound}
use Rattle.pid_types.specs.State.{State}
use Rattle.model_laws.proofs.Lists.{IsIn-from_filter}
use Rattle.table_text.specs.Ranges.{Each}
use Rattle.table_text.specs.Reading.{HasNumbers, IsHeldControl, IsHeldRow}
use Rattle.table_text.specs.Texts.{control_shown}
use Rattle.table_text.proofs.Snapshots.{has_numbers}
use Rattle.table_text.proofs.Told.{uncounted}
use Rattle.translate.specs.From.{rows_from}

-- one row more
pub held-from : (state : State) (from next : ℕ) (row : Row) → IsSound state → rows_from state.rows from ≡ row ∷ rows_from state.rows next → (HasNumbers row → IsHeldRow row)
    → Each IsHeldRow (rows_from state.rows next) → Each IsHeldRow (rows_from state.rows from)
held-from state from next row sound first fits each x i = go (subst (IsIn x) first i)
  where
    there : IsIn row state.rows
    there = (IsIn-from_filter (λ (r : Row). not (nat_lt (root_number r.name) from)) row state.rows (subst (IsIn row) (sym first) (inl refl))).0

    go : IsIn x (row ∷ rows_from state.rows next) → IsHeldRow x
    go (inl same) = subst IsHeldRow (sym same) (fits (has_numbers state sound row there))
    go (inr j) = each x j

-- the control groups that are written, without their counts
pub controls-held : (state : State) → Each IsHeldControl (map control_shown (map (with_count state) state.controls)) → Each IsHeldControl state.controls
controls-held state each = subst (Each IsHeldControl) (uncounted state state.controls) each
