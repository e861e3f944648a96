use Rattle.std.proofs.Common.{◌≡◌, take}
use Rattle.std.specs.Prelude.{filter_map}
use Rattle.pid_types.specs.Chains.{least_of}
use Rattle.plain_table.specs.Least.{number_from}
use Rattle.plain_table.proofs.table.PlainTable.least_number.Given as goal

abbrev pub invariant-loop-row : goal.invariant-loop-row
invariant-loop-row l = l.least ≡ least_of (filter_map (number_from l.view l.kind l.space l.from) (take l.row-index l.row-items))
