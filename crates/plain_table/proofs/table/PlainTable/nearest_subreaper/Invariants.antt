use Rattle.std.proofs.Common.{◌≡◌, ◌-◌, length}
use Rattle.pid_types.specs.Exit.{parent_number, is_subreaper_in, nearest_subreaper}
use Rattle.pid_types.proofs.Ancestors.{found_above}
use Rattle.plain_table.proofs.table.PlainTable.nearest_subreaper.Given as goal

abbrev pub invariant-loop : goal.invariant-loop
invariant-loop l =
    found_above (parent_number l.self.rows) (is_subreaper_in l.self.rows l.task.name.space) (length l.self.rows - l.counter) l.number ≡ nearest_subreaper l.self.rows l.task
