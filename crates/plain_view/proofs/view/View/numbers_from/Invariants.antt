use Rattle.std.proofs.Common.{◌≡◌, take}
use Rattle.plain_view.proofs.view.View.numbers_from.Given as goal

abbrev pub invariant-loop-number : goal.invariant-loop-number
invariant-loop-number l = l.numbers.items ≡ take l.number-index l.number-items
