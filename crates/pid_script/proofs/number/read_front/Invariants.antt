use Rattle.std.proofs.Common.{◌≡◌, take}
use Rattle.std.specs.Str.Parse.{AllDigits, digits_value}
use Rattle.pid_script.proofs.number.read_front.Given as goal

abbrev pub invariant-loop-index : goal.invariant-loop-index
invariant-loop-index l = record {
  digits : AllDigits 10 (take l.index l.word);
  value : l.number ≡ digits_value 10 (take l.index l.word);
}
