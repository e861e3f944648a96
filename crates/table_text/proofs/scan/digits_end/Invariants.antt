use Rattle.std.proofs.Common.{◌-◌, take, drop}
use Rattle.std.specs.Str.Parse.{AllDigits}
use Rattle.table_text.proofs.scan.digits_end.Given as goal

abbrev pub invariant-loop-index : goal.invariant-loop-index
invariant-loop-index l = AllDigits 10 (take (l.index - l.at) (drop l.at l.text))
