use Rattle.std.proofs.Common.{◌≡◌, ◌++◌, ◌-◌, ◌≤◌}
use Rattle.task_table.specs.View.{state_of}
use Rattle.translate.specs.From.{rows_from}
use Rattle.translate.proofs.shown.all_rows.Given as goal

abbrev pub invariant-loop-number : goal.invariant-loop-number
invariant-loop-number l = record {
  walk : l.rows.items ++ rows_from (state_of l.store).rows l.from ≡ (state_of l.store).rows;
  below : l.from ≤ l.store.numbering.pid_max;
}

abbrev pub decreases-loop-number : goal.decreases-loop-number
decreases-loop-number l = l.store.numbering.pid_max - l.from
