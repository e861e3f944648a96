-- What a key has in memory, as the task that it says.
use Rattle.std.specs.Prelude.{Option, Some, None, option_map}
use Rattle.pid_types.specs.declared.plain.Life.{Life}
use Rattle.pid_types.specs.declared.plain.Life.TheVariants.{Live, Zombie}
use Rattle.pid_types.specs.declared.plain.Ended.TheVariants.{Exited as by_exit, Killed as by_fall}
use Rattle.task_tree.specs.declared.Task.{Task}
use Rattle.task_tree.specs.declared.places.Place.{Place}
use Rattle.task_tree.specs.declared.places.Standing.{Standing}
use Rattle.task_tree.specs.declared.places.Standing.TheVariants.{Vacant, Alive, Exited, Killed}

-- the life of a task that stands so: none where the place is vacant
abbrev pub life_in : Standing → Option Life
life_in Vacant = None
life_in Alive = Some Live
life_in (Exited status) = Some (Zombie (by_exit status))
life_in Killed = Some (Zombie by_fall)

-- the task of a place, if it is not vacant
abbrev pub task_in : Place → Option Task
task_in place = option_map
    (λ life. record {
      children_space = place.children_space;
      home = place.home;
      executed = place.executed;
      subreaper = place.subreaper;
      life = life;
    })
    (life_in place.standing)
