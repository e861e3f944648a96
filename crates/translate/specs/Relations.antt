-- To whom a task belongs, and in which namespaces these names are.
use Rattle.std.specs.Prelude.{ℕ, List, Option, option_map}
use Rattle.std.specs.Option.{option_map_or}
use Rattle.pid_types.specs.declared.plain.Row.{Row}
use Rattle.pid_types.specs.Names.{root_number, row_at}
use Rattle.translate.specs.declared.relations.Relations.{Relations}

-- the root number of the task's parent, 0 where it has none
abbrev pub parent_in : Row → ℕ
parent_in row = option_map_or root_number row.parent 0

-- what is read of the task's row: all numbers are those of the root namespace
abbrev pub relations_of : Row → Relations
relations_of row = record {
  parent = parent_in row;
  life = row.life;
  group = root_number row.group;
  session = root_number row.session;
  space = row.name.space;
  group_space = row.group.space;
  session_space = row.session.space;
}

-- the same of the task with the root number
abbrev pub relations_at : List Row → ℕ → Option Relations
relations_at rows n = option_map relations_of (row_at rows n)
