use Rattle.std.proofs.Common.{◌++◌, ap, arith}
use Rattle.std.proofs.lemmas.Grind.{common_steps}
use Rattle.std.specs.List.{flat_map}
use Rattle.pid_script.specs.Lists.{task_line}
use Rattle.translate.proofs.Walks.{all-from}
use Rattle.table_lines.proofs.list.push_tasks.Goals as goal

pub loop-number-init : goal.loop-number-init
loop-number-init c = record {
  walk = ap (λ rows. c.args.text.now.items ++ flat_map task_line rows) (all-from c.args.table.now.rows);
  below = omega arith;
}

pub loop-number-preserved : goal.loop-number-preserved
loop-number-preserved c = record {
  walk = grind (arith, common_steps);
  below = omega (arith, c.in-Some.ensures.above);
}
