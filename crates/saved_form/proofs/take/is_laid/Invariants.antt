use Rattle.std.proofs.Common.{◌≡◌, ◌+◌, ◌↔◌, true}
use Rattle.saved_form.specs.Taking.{bodies}
use Rattle.saved_form.proofs.Laid.{laid}
use Rattle.saved_form.proofs.take.is_laid.Given as goal

abbrev pub invariant-loop-place : goal.invariant-loop-place
invariant-loop-place l = (l.same ≡ true) ↔ (bodies (l.place + 1) l.bytes ≡ laid l.entry l.place)
