use Rattle.std.proofs.Common.{rules, arith}
use Rattle.std.proofs.lemmas.Grind.{common_steps}
use Rattle.wait_calls.proofs.selection.choose_any.Goals as goal

pub rank-requires : goal.rank-requires
rank-requires c = grind (arith, common_steps)

pub least_ended-requires : goal.least_ended-requires
least_ended-requires c = grind (arith, common_steps)

pub returns-in-Some : goal.returns-in-Some
returns-in-Some c = search rules

pub first_child-requires : goal.first_child-requires
first_child-requires c = grind (arith, common_steps)
