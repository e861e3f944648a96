-- A control group as a snapshot shows it, found by its id.
use Rattle.std.specs.Prelude.{ℕ, option_and_then}
use Rattle.pid_types.specs.declared.plain.ControlRow.{ControlRow}
use Rattle.pid_types.specs.State.{State}
use Rattle.pid_types.specs.Controls.{control_at, parent_control, count}

abbrev pub control_row_of : State → ℕ → ControlRow
control_row_of state id = record {
  id = id;
  parent = parent_control state.controls id;
  limit = option_and_then (λ c. c.limit) (control_at state.controls id);
  count = count state id;
}
