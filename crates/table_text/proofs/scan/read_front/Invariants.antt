use Rattle.std.proofs.Common.{◌≡◌, ◌-◌, take, drop}
use Rattle.std.specs.Str.Parse.{AllDigits, digits_value}
use Rattle.table_text.proofs.scan.read_front.Given as goal

abbrev pub invariant-loop-index : goal.invariant-loop-index
invariant-loop-index l = record {
  digits : AllDigits 10 (take (l.index - l.at) (drop l.at l.text));
  value : l.number ≡ digits_value 10 (take (l.index - l.at) (drop l.at l.text));
}
