use Rattle.std.proofs.Common.{◌≡◌, take, filter}
use Rattle.std.specs.Prelude.{option_copied}
use Rattle.pid_types.specs.Wait.{least_row}
use Rattle.plain_table.specs.Least.{is_ended_match}
use Rattle.plain_table.proofs.table.PlainTable.ended_child.Given as goal

abbrev pub invariant-loop-row : goal.invariant-loop-row
invariant-loop-row l =
    option_copied l.least ≡ least_row l.view l.caller.name.space (filter (is_ended_match l.view l.caller l.which) (take l.row-index l.row-items))
