use Rattle.std.proofs.Common.{rules, arith}
use Rattle.std.proofs.lemmas.Grind.{common_steps}
use Rattle.wait_calls.proofs.selection.choose_task.Goals as goal

pub returns : goal.returns
returns c = search rules

pub rank-requires : goal.rank-requires
rank-requires c = grind (arith, common_steps)
