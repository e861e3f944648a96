use Rattle.std.proofs.Common.{List, Option, None, sym, ap, subst, ◌∙◌, arith}
use Rattle.std.specs.Prelude.{slice_index_or}
use Rattle.std.proofs.lemmas.Grind.{common_steps}
use Rattle.task_tree.specs.declared.Task.{Task}
use Rattle.task_table.specs.Store.{Store}
use Rattle.task_table.specs.Residents.{AreHoused}
use Rattle.task_table.proofs.Rest as rest
use Rattle.task_table.proofs.Tasks.adopt.Goals as goal

pub adopt-requires-clause-parent : goal.adopt-requires-clause-parent
adopt-requires-clause-parent c = grind (arith, common_steps)

pub invariant_of-self : goal.invariant_of-self
invariant_of-self c =
    let old : Store = record { numbering = c.self.inside.numbers; tree = c.self.inside.tree; members = c.self.inside.members; charges = c.self.inside.controls; threads = c.self.inside.threads } in
    record {
      agree =
          rest.rekinned old c.adopt.new.self c.self.invariant.agree c.adopt.ensures.tasks
          (λ k p r e. c.self.invariant.agree.ranks k p r (sym (ap (λ l. slice_index_or l k None) c.adopt.ensures.ranks) ∙ e));
      threaded = c.self.invariant.threaded;
      housed = subst (λ (tasks : List (Option Task)). AreHoused tasks c.self.inside.controls c.self.inside.residents) (sym c.adopt.ensures.tasks) c.self.invariant.housed;
    }
