-- What a table is made with.
use Rattle.std.specs.Prelude.{ℕ, ◌+◌, ◌≤◌}
use Rattle.pid_types.specs.Bounds.{reserved_numbers, greatest_pid_max}

-- the bound of all numbers, and the stamp of the first call
pub record Settings : Type 0 where
  pub pid_max : ℕ
  pub first_stamp : ℕ

-- the bound leaves room for a restart, which is the table's own rule, and is none above the greatest
abbrev pub HasGoodPidMax : ℕ → Type 0
HasGoodPidMax pid_max = (reserved_numbers + 1 ≤ pid_max) × (pid_max ≤ greatest_pid_max)
