-- The plain state of the table.
use Rattle.std.specs.Prelude.{ℕ, List, [], ◌∷◌, None, false}
use Rattle.pid_types.specs.declared.plain.Name.{Name}
use Rattle.pid_types.specs.declared.plain.Row.{Row}
use Rattle.pid_types.specs.declared.plain.Space.{Space}
use Rattle.pid_types.specs.declared.plain.Control.{Control}
use Rattle.pid_types.specs.declared.plain.Life.TheVariants.{Live}
use Rattle.pid_types.specs.declared.plain.Thread.{Thread}

-- the processes by their root numbers, the threads beside their first ones by theirs, the processes whose first thread has left while
-- others run, the namespaces and the control groups by their ids, and the bound of all numbers
pub record State : Type 0 where
  pub rows : List Row
  pub threads : List Thread
  pub left : List Name
  pub spaces : List Space
  pub controls : List Control
  pub pid_max : ℕ

-- the name of the root init: number 1 of the root namespace
abbrev pub root_name : Name
root_name = record { space = 0; numbers = record { items = 1 ∷ [] } }

-- the root init leads its own group and session, as the init of a machine does once it has called setsid(2)
abbrev pub root_init : Row
root_init = record {
  name = root_name;
  parent = None;
  group = root_name;
  session = root_name;
  executed = false;
  life = Live;
  home = 0;
  children_space = 0;
  subreaper = false;
}

-- the state with the root init alone, behind whose number the cursor stands
abbrev pub root_state : ℕ → State
root_state pid_max = record {
  rows = root_init ∷ [];
  threads = [];
  left = [];
  spaces = record { id = 0; parent = None; cursor = 2; fallen = false } ∷ [];
  controls = record { id = 0; parent = None; limit = None } ∷ [];
  pid_max = pid_max;
}
