use Rattle.std.proofs.Common.{◌≡◌, take}
use Rattle.pid_numbers.proofs.levels.write_inwards.Given as goal

abbrev pub invariant-loop-k : goal.invariant-loop-k
invariant-loop-k l = l.into.items ≡ take l.k l.numbers
