-- The tasks in the order of their numbers in the root namespace, from one on.
use Rattle.std.specs.Prelude.{ℕ, List, filter, not, nat_lt}
use Rattle.pid_types.specs.declared.plain.Row.{Row}
use Rattle.pid_types.specs.Names.{root_number}

-- the tasks whose root numbers are not below this one
abbrev pub rows_from : List Row → ℕ → List Row
rows_from rows n = filter (λ row. not (nat_lt (root_number row.name) n)) rows
