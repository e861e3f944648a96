use Rattle.std.proofs.Common.{◌≡◌, ◌-◌, ◌↔◌, take, drop, replicate}
use Rattle.std.specs.Prelude.{IsTrue}
use Rattle.saved_form.proofs.entry.are_zero.Given as goal

abbrev pub invariant-loop-i : goal.invariant-loop-i
invariant-loop-i l = IsTrue l.zero ↔ (take (l.i - l.from) (drop l.from l.levels) ≡ replicate (l.i - l.from) 0)
