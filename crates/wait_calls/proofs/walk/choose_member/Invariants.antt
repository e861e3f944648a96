use Rattle.std.proofs.Common.{◌≡◌}
use Rattle.wait_calls.specs.declared.selection.Choice.TheVariants.{NoChild}
use Rattle.wait_calls.specs.Walk.{walked}
use Rattle.wait_calls.proofs.walk.choose_member.Given as goal

abbrev pub invariant-loop-member : goal.invariant-loop-member
invariant-loop-member l = record {
  walk : walked l.store l.caller l.group l.choice l.member-iterator ≡ walked l.store l.caller l.group NoChild l.initial.member-iterator;
}
