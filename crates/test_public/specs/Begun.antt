-- A store with one control group.
use Rattle.std.specs.Prelude.{◌<◌}
use Rattle.std.specs.List.{AllByRecursion}
use Rattle.task_table.specs.Store.{Store}

-- only the root control group is there, which has id 0
abbrev pub HasRootControl : Store → Type 0
HasRootControl s = AllByRecursion (λ g. g.id < 1) s.charges.controls
