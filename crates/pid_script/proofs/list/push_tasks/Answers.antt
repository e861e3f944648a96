use Rattle.std.proofs.Common.{arith}
use Rattle.std.proofs.lemmas.Grind.{common_steps}
use Rattle.pid_script.specs.Lists.{task_line}
use Rattle.pid_script.proofs.Each.{one_more}
use Rattle.pid_script.proofs.list.push_tasks.Goals as goal

pub returns : goal.returns
returns c = grind (arith, common_steps)

pub loop-row-preserved : goal.loop-row-preserved
loop-row-preserved c = one_more task_line _ _ _ c.args.rows.now c.loop-row.row-index c.row-item.result (omega arith) c.row-item.is c.loop-row.invariant c.in_ok-push_task.ensures
