use Rattle.std.proofs.Common.{arith}
use Rattle.std.proofs.lemmas.Grind.{common_steps}
use Rattle.pid_script.proofs.Each.{one_more}
use Rattle.table_text.specs.Texts.{task_text_line}
use Rattle.table_text.proofs.dump.push_tasks.Goals as goal

pub loop-row-preserved : goal.loop-row-preserved
loop-row-preserved c = one_more task_text_line _ _ _ c.args.rows.now c.loop-row.row-index c.row-item.result (omega arith) c.row-item.is
    c.loop-row.invariant c.in_ok-push_task.ensures

pub returns : goal.returns
returns c = grind (arith, common_steps)
