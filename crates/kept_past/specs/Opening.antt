-- An opening, as the record holds it.
use Rattle.std.specs.Prelude.{Bool, true, false}
use Rattle.pid_types.specs.Shown.{Shows}
pub use Rattle.pid_types.specs.Shown.{state_shown, control_shown}
use Rattle.pid_types.specs.State.{State, root_state}
use Rattle.kept_past.specs.declared.opening.Form.{Form}
use Rattle.kept_past.specs.declared.opening.Form.TheVariants.{Root, Table, Fixed}

-- a state, whether no call can be made on it, and whether the first call made on it needs a table first
pub record Held : Type 0 where
  pub state : State
  pub is_fixed : Bool
  pub is_new : Bool

-- what is held in each form
abbrev pub held_in : Form → Held
held_in (Root config) = record { state = root_state config.pid_max; is_fixed = false; is_new = true }
held_in (Table table) = record { state = table; is_fixed = false; is_new = false }
held_in (Fixed plain) = record { state = state_shown plain; is_fixed = true; is_new = false }

-- a snapshot shows the state that is read back from it
abbrev pub IsHeldWell : Form → Type 0
IsHeldWell (Root config) = Unit {0}
IsHeldWell (Table table) = Unit {0}
IsHeldWell (Fixed plain) = Shows (state_shown plain) plain
