use Rattle.std.proofs.Common.{◌≡◌, ◌∙◌, refl, sym, ap, Some}
use Rattle.pid_numbers.specs.Numbering.{number_of}
use Rattle.task_tree.specs.Tree.{task_at}
use Rattle.task_table.specs.View.{state_of}
use Rattle.task_table.proofs.LookUps.{none_some, task_at-key, task_at-none}
use Rattle.task_table.proofs.Alone.{process-task}
use Rattle.task_table.proofs.view.find_task.Goals as goal

pub returns-in_default-clause-row : goal.returns-in_default-clause-row
returns-in_default-clause-row c i at =
    process-task (state_of c.args.store.now) refl i c.args.number
    ∙ task_at-none c.args.store.now c.laws.ensures c.args.space i c.args.number at (λ k t e on. c.in_default.ensures k (ap (λ b. number_of b k c.args.space) c.numbers.ensures ∙ on))

pub returns-in-Some-task-clause-row : goal.returns-in-Some-task-clause-row
returns-in-Some-task-clause-row c i at =
    process-task (state_of c.args.store.now) refl i c.args.number
    ∙ task_at-key c.args.store.now c.laws.ensures c.args.space i c.args.number c.in-Some.key c.in-Some-task.task at
    (ap (λ t. task_at t c.in-Some.key) (sym c.tree.ensures) ∙ sym c.task.ensures ∙ c.in-Some-task.is) (ap (λ b. number_of b c.in-Some.key c.args.space) (sym c.numbers.ensures) ∙ c.in-Some.ensures)

pub returns-in-None-clause-row : goal.returns-in-None-clause-row
returns-in-None-clause-row c i at =
    let here : number_of c.args.store.now.numbering c.in-Some.key c.args.space ≡ Some c.args.number = ap (λ b. number_of b c.in-Some.key c.args.space) (sym c.numbers.ensures) ∙ c.in-Some.ensures in
    process-task (state_of c.args.store.now) refl i c.args.number
    ∙ task_at-none c.args.store.now c.laws.ensures c.args.space i c.args.number at
    (λ k t e on. none_some (sym c.in-None.is ∙ c.task.ensures ∙ ap (λ t. task_at t c.in-Some.key) c.tree.ensures
    ∙ ap (task_at c.args.store.now.tree) (c.laws.ensures.numbering.distinct c.in-Some.key k c.args.space c.args.number here on) ∙ e))
