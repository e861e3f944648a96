use Rattle.std.proofs.Common.{ap, false, true}
use Rattle.pid_types.specs.State.{State}
use Rattle.kept_past.specs.Opening.{Held}
use Rattle.kept_past.proofs.Shown.{shows-back, state_of-shows}
use Rattle.kept_past.proofs.opening.Opening.copy.Goals as goal

pub invariant_of-result : goal.invariant_of-result
invariant_of-result c = shows-back c.args.table.now c.in_ok-plain.plain c.in_ok-plain.ensures

pub returns : goal.returns
returns c = ap (λ (s : State). let held : Held = record { state = s; is_fixed = true; is_new = false } in held) (state_of-shows c.args.table.now c.in_ok-plain.plain c.in_ok-plain.ensures)
