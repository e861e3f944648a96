use Rattle.std.proofs.Common.{◌≡◌, ◌∙◌, Some, sym, ap}
use Rattle.pid_types.specs.Outcome.{sweep}
use Rattle.pid_types.specs.Leave.{without_first}
use Rattle.task_tree.specs.Tree.{task_at}
use Rattle.task_table.specs.View.{row_of}
use Rattle.task_table.proofs.Drawn.{some_of}
use Rattle.thread_view.specs.Full.{full_state}
use Rattle.thread_ends.proofs.FirstLeft.{first-left}
use Rattle.thread_ends.proofs.leave_first.Goals as goal

pub returns-clause-state : goal.returns-clause-state
returns-clause-state c task at =
    let s = c.args.store.now in
    let here : task_at s.tree c.args.process ≡ Some c.in-Some.task = ap (λ t. task_at t c.args.process) (sym c.tree.ensures) ∙ sym c.task.ensures ∙ c.in-Some.is in
    first-left s c.leave_first.new.self c.laws.ensures c.laws-2.ensures c.thread_laws-2.ensures c.requires.full.processes c.requires.full.parents
    c.args.process c.in-Some.task here c.requires.stays c.requires.room c.leave_first.ensures.threads c.leave_first.ensures.home c.leave_first.ensures.rest
    ∙ ap (λ t. sweep (without_first (full_state s) (row_of s c.args.process t))) (some_of c.in-Some.task task (sym here ∙ at))
