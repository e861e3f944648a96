use Rattle.std.proofs.Common.{Some, List, Option, ap, ◌∙◌}
use Rattle.std.specs.Prelude.{slice_set}
use Rattle.std.proofs.lemmas.List.{set-set}
use Rattle.task_tree.specs.declared.Task.{Task}
use Rattle.task_table.specs.Store.{Store}
use Rattle.set_calls.proofs.tasks.go_on.Goals as goal
use Rattle.set_calls.proofs.tasks.go_on.Goals.{then-has_left, else-has_left+then-was-now, else-has_left+else-was-now}

pub returns-clause-tasks : goal.returns-clause-tasks
returns-clause-tasks c =
    let key = c.args.process in
    let before = c.args.store.now.tree.tasks in
    let moved : Task = record c.args.was { home = c.args.now.home } in
    let set_in = λ (s : Store). slice_set s.tree.tasks key (Some c.args.now) in
    let set_on = λ (tasks : List (Option Task)). slice_set tasks key (Some c.args.now) in
    elim c.if-has_left.branch [
      | then-has_left w ↦ c.update.ensures.tasks ∙ ap set_in w.store-is ∙ ap set_on w.return_first.ensures.tasks ∙ set-set before key (Some moved) (Some c.args.now)
      | else-has_left+then-was-now w ↦ c.update.ensures.tasks ∙ ap set_in w.store-is ∙ ap set_on w.move_home.ensures.tasks ∙ set-set before key (Some moved) (Some c.args.now)
      | else-has_left+else-was-now w ↦ c.update.ensures.tasks ∙ ap set_in w.store-is
    ]
