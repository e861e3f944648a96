use Rattle.task_table.specs.Store.{Store}
use Rattle.task_table.proofs.Rest as rest
use Rattle.task_table.proofs.Housed as housed
use Rattle.task_table.proofs.Tasks.remove_control.Goals as goal

pub invariant_of-self : goal.invariant_of-self
invariant_of-self c = record {
  agree =
      let old : Store = record { numbering = c.self.inside.numbers; tree = c.self.inside.tree; members = c.self.inside.members; charges = c.self.inside.controls; threads = c.self.inside.threads } in
      rest.removed old c.remove.new.self c.self.invariant.agree c.args.c c.remove.result c.remove.ensures.refusal c.remove.ensures.homes c.remove.ensures.tasks c.remove.ensures.err;
  threaded =
      c.self.invariant.threaded;
  housed =
      housed.kept-tasks c.self.inside.tree.tasks c.self.inside.controls c.remove.new.self c.self.inside.residents c.self.invariant.housed
      (housed.less-removed c.self.inside.controls c.remove.new.self c.args.c c.remove.result c.remove.ensures.refusal c.remove.ensures.homes c.remove.ensures.err);
}
