use Rattle.std.proofs.Common.{◌≤◌, ◌-◌, length}
use Rattle.std.specs.List.{flat_map}
use Rattle.table_text.specs.Texts.{control_text_line}
use Rattle.table_text.specs.Ranges.{Each, IsControlOfWords}
use Rattle.table_text.specs.Reading.{IsRead}
use Rattle.table_text.proofs.read.read_controls.Given as goal

abbrev pub invariant-loop-at : goal.invariant-loop-at
invariant-loop-at l = record {
  within : l.at ≤ length l.text;
  read : IsRead l.text l.fn.at l.at (flat_map control_text_line l.controls.items);
  words : Each IsControlOfWords l.controls.items;
}

abbrev pub decreases-loop-at : goal.decreases-loop-at
decreases-loop-at l = length l.text - l.at
