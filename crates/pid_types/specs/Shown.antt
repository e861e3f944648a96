-- What a snapshot shows of a state.
use Rattle.std.specs.Prelude.{◌≡◌, [], map}
use Rattle.pid_types.specs.declared.plain.Control.{Control}
use Rattle.pid_types.specs.declared.plain.ControlRow.{ControlRow}
use Rattle.pid_types.specs.declared.plain.Plain.{Plain}
use Rattle.pid_types.specs.State.{State}
use Rattle.pid_types.specs.Controls.{count}

-- the control group with its count
abbrev pub with_count : State → Control → ControlRow
with_count state c = record { id = c.id; parent = c.parent; limit = c.limit; count = count state c.id }

-- the control group of a snapshot, without its count
abbrev pub control_shown : ControlRow → Control
control_shown c = record { id = c.id; parent = c.parent; limit = c.limit }

-- the state that a snapshot has: one without threads
abbrev pub state_shown : Plain → State
state_shown plain = record {
  rows = plain.rows.items;
  threads = [];
  left = [];
  spaces = plain.spaces.items;
  controls = map control_shown plain.controls.items;
  pid_max = plain.pid_max;
}

-- the snapshot shows the state, which has no threads: its processes, its namespaces, and its control groups with their counts
pub record Shows (state : State) (plain : Plain) : Type 0 where
  pub pid_max : plain.pid_max ≡ state.pid_max
  pub rows : plain.rows.items ≡ state.rows
  pub threads : state.threads ≡ []
  pub left : state.left ≡ []
  pub spaces : plain.spaces.items ≡ state.spaces
  pub controls : plain.controls.items ≡ map (with_count state) state.controls
