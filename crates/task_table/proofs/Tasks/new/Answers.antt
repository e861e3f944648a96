use Rattle.std.proofs.Common.{arith}
use Rattle.std.proofs.lemmas.Grind.{common_steps}
use Rattle.task_table.proofs.Begun as begun
use Rattle.task_table.proofs.Housed as housed
use Rattle.task_table.proofs.Threaded as threads
use Rattle.task_table.proofs.Tasks.new.Goals as goal

pub invariant_of-result : goal.invariant_of-result
invariant_of-result c = record {
  agree =
      begun.IsStore-empty c.in_ok-new.field-0 c.new-2.result c.new-3.result c.in_ok-new-2.field-0 c.new-5.result
      c.in_ok-new.ensures.names c.new-2.ensures c.new-3.ensures c.new-5.ensures.threads c.new-5.ensures.left c.in_ok-new-2.ensures.tasks c.in_ok-new-2.ensures.none;
  threaded = threads.begun c.in_ok-new.field-0 c.new-5.result c.in_ok-new.ensures.names c.new-5.ensures.threads;
  housed =
      housed.begun c.in_ok-new-2.field-0 c.new-2.result.tasks c.in_ok-no_residents.field-0 (begun.nothing c.new-2.result.tasks c.new-2.ensures) c.in_ok-new-2.ensures.key c.in_ok-no_residents.ensures.none c.in_ok-no_residents.ensures.root c.in_ok-no_residents.ensures.few;
}

pub returns-clause-tasks : goal.returns-clause-tasks
returns-clause-tasks c = grind (arith, common_steps)

pub returns-clause-threads : goal.returns-clause-threads
returns-clause-threads c = threads.none c.new-5.result c.new-5.ensures.threads c.new-5.ensures.left
