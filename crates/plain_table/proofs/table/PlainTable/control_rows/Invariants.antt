use Rattle.std.proofs.Common.{◌≡◌, take, map}
use Rattle.pid_types.specs.Shown.{with_count}
use Rattle.plain_table.proofs.table.PlainTable.control_rows.Given as goal

abbrev pub invariant-loop-control : goal.invariant-loop-control
invariant-loop-control l = l.rows.items ≡ map (with_count l.view) (take l.control-index l.control-items)
