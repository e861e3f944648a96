-- The model's state that a store holds: keys replaced by names and ids.
use Rattle.std.specs.Prelude.{ℕ, ◌==◌, List, [], map, reverse, position, slice_get, Option, Some, option_map, option_and_then, unwrap_or}
use Rattle.std.specs.Option.{option_map_or, option_eq}
use Rattle.pid_types.specs.declared.plain.Name.{Name}
use Rattle.pid_types.specs.declared.plain.Row.{Row}
use Rattle.pid_types.specs.declared.plain.Space.{Space}
use Rattle.pid_types.specs.State.{State, root_name}
use Rattle.pid_numbers.specs.Numbering.{Numbering, Identifier, namespace_at, id_at, identifier_at, path_at, has_fallen_at, number_in}
use Rattle.task_tree.specs.declared.Task.{Task}
use Rattle.task_tree.specs.Tree.{task_at, parent_of}
use Rattle.groups_sessions.specs.Membership.{group_of, session_of}
use Rattle.pids_charge.specs.Charges.{home_id}
use Rattle.task_table.specs.Store.{Store}
use Rattle.task_table.specs.Collect.{collect}

-- the name of an identifier: its namespace's id, and its numbers, the root's first
abbrev pub name_of : Numbering → Identifier → Name
name_of b u = record { space = unwrap_or (id_at b u.space) 0; numbers = record { items = reverse u.numbers } }

-- the name of the identifier with the key
abbrev pub name_at : Numbering → ℕ → Name
name_at b k = option_map_or (name_of b) (identifier_at b k) root_name

-- the key of the identifier with the number in the namespace
abbrev pub key_numbered : Numbering → ℕ → ℕ → Option ℕ
key_numbered b s n = position (λ o. option_eq ◌==◌ (number_in (path_at b) s o) (Some n)) b.names

-- a task's row
abbrev pub row_of : Store → ℕ → Task → Row
row_of s k task = record {
  name = name_at s.numbering k;
  parent = option_map (name_at s.numbering) (parent_of s.tree k);
  group = option_map_or (name_at s.numbering) (group_of s.members k) root_name;
  session = option_map_or (name_at s.numbering) (session_of s.members k) root_name;
  executed = task.executed;
  life = task.life;
  home = home_id s.charges task.home;
  children_space = task.children_space;
  subreaper = task.subreaper;
}

-- the row of the task with the key
abbrev pub row_with : Store → ℕ → Option Row
row_with s k = option_map (row_of s k) (task_at s.tree k)

-- the row of the task with the number in the namespace
abbrev pub row_numbered : Store → ℕ → ℕ → Option Row
row_numbered s space n = option_and_then (row_with s) (key_numbered s.numbering space n)

-- the id of the namespace that the one with the key is in
abbrev pub parent_id : Numbering → ℕ → Option ℕ
parent_id b key = option_and_then (id_at b) (slice_get (path_at b key) 1)

-- an id with its key as a namespace
abbrev pub space_of : Numbering → ℕ × ℕ → Space
space_of b p = record {
  id = p.0;
  parent = parent_id b p.1;
  cursor = option_map_or (λ t. t.cursor) (namespace_at b p.1) 0;
  fallen = has_fallen_at b p.1;
}

-- the namespaces by their ids
abbrev pub spaces_of : Numbering → List Space
spaces_of b = map (space_of b) b.order

-- the tasks by their numbers in the root namespace, the namespaces and the control groups by their ids. A store has no threads
abbrev pub state_of : Store → State
state_of s = record {
  rows = collect (row_numbered s 0) 0 s.numbering.pid_max;
  threads = [];
  left = [];
  spaces = spaces_of s.numbering;
  controls = s.charges.controls;
  pid_max = s.numbering.pid_max;
}
