use Rattle.std.proofs.Common.{◌∙◌, ◌++◌, arith, ap}
use Rattle.task_table.specs.View.{state_of}
use Rattle.translate.specs.From.{rows_from}
use Rattle.translate.proofs.Walks.{all-from}
use Rattle.translate.proofs.shown.all_rows.Goals as goal

pub loop-number-init : goal.loop-number-init
loop-number-init c = record {
  walk = ap (λ items. items ++ rows_from (state_of c.args.store.now).rows 0) c.new-rows.ensures.items ∙ all-from (state_of c.args.store.now).rows;
  below = omega arith;
}
