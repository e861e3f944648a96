use Rattle.std.proofs.Common.{◌≤◌, ◌-◌, length}
use Rattle.std.specs.List.{flat_map}
use Rattle.table_text.specs.Texts.{task_text_line}
use Rattle.table_text.specs.Ranges.{Each, IsRowOfWords}
use Rattle.table_text.specs.Reading.{IsRead}
use Rattle.table_text.specs.Rests.{IsRest}
use Rattle.table_text.proofs.read.read_tasks.Given as goal

abbrev pub invariant-loop-row : goal.invariant-loop-row
invariant-loop-row l = record {
  within : l.at ≤ length l.text;
  read : IsRead l.text l.fn.at l.at (flat_map task_text_line l.rows);
  words : Each IsRowOfWords l.rows;
  rest : IsRest l.text l.last l.row;
}

abbrev pub decreases-loop-row : goal.decreases-loop-row
decreases-loop-row l = length l.text - l.at
