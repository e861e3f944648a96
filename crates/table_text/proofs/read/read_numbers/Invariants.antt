use Rattle.std.proofs.Common.{◌≡◌, ◌≤◌, length, drop}
use Rattle.pid_script.specs.Answers.{joined}
use Rattle.table_text.specs.Ranges.{IsWord, Each}
use Rattle.table_text.specs.Reading.{IsRead, StopsDigits}
use Rattle.table_text.proofs.read.read_numbers.Given as goal

abbrev pub invariant-loop-further : goal.invariant-loop-further
invariant-loop-further l = record {
  within : l.at ≤ length l.text;
  count : length l.numbers.items ≡ l._further;
  read : IsRead l.text l.fn.at l.at (joined 44 l.numbers.items);
  words : Each IsWord l.numbers.items;
  stops : StopsDigits (drop l.at l.text);
}
