-- A namespace with the cursor that stands beside it.
use Rattle.std.specs.Prelude.{ℕ, List, unwrap_or}
use Rattle.pid_types.specs.declared.plain.Space.{Space}
use Rattle.pid_types.specs.Names.{beside}

-- the namespace, with the cursor beside its id if it is on the path
abbrev pub moved_by : List ℕ → List ℕ → Space → Space
moved_by path cursors s = record s { cursor = unwrap_or (beside s.id path cursors) s.cursor }
