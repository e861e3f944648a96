-- One read of a namespace.
use Rattle.std.specs.Prelude.{ℕ, Option, option_map}
use Rattle.pid_types.specs.declared.plain.Space.{Space}
use Rattle.pid_types.specs.Names.{level, root_number, space_at, task_numbered}
use Rattle.pid_types.specs.State.{State}
use Rattle.translate.specs.declared.space.SpaceStat.{SpaceStat}

-- what is read of the namespace. Its init is number 1 in it: pid_namespaces(7), "The namespace init process"
abbrev pub space_stat_of : State → Space → SpaceStat
space_stat_of state space = record {
  id = space.id;
  parent = space.parent;
  level = level state.spaces space.id;
  init = option_map (λ row. root_number row.name) (task_numbered state space.id 1);
  fallen = space.fallen;
}

-- the same of the namespace with the id
abbrev pub space_stat_at : State → ℕ → Option SpaceStat
space_stat_at state id = option_map (space_stat_of state) (space_at state.spaces id)
