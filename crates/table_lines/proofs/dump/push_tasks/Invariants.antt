use Rattle.std.proofs.Common.{◌≡◌, ◌++◌, ◌-◌, ◌≤◌}
use Rattle.std.specs.List.{flat_map}
use Rattle.table_text.specs.Ranges.{Each}
use Rattle.table_text.specs.Reading.{IsHeldRow}
use Rattle.table_text.specs.Texts.{task_text_line}
use Rattle.translate.specs.From.{rows_from}
use Rattle.table_lines.proofs.dump.push_tasks.Given as goal

abbrev pub invariant-loop-number : goal.invariant-loop-number
invariant-loop-number l = record {
  walk : l.text.items ++ flat_map task_text_line (rows_from l.table.rows l.from) ≡ l.initial.text.items ++ flat_map task_text_line l.table.rows;
  held : Each IsHeldRow (rows_from l.table.rows l.from) → Each IsHeldRow l.table.rows;
  below : l.from ≤ l.table.pid_max;
}

abbrev pub decreases-loop-number : goal.decreases-loop-number
decreases-loop-number l = l.table.pid_max - l.from
