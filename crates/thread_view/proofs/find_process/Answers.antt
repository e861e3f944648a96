use Rattle.std.proofs.Common.{◌≡◌, ◌∙◌, Some, unwrap_or, sym, ap}
use Rattle.pid_numbers.specs.Numbering.{number_of}
use Rattle.process_threads.specs.Threads.{thread_process}
use Rattle.task_tree.specs.Tree.{task_at}
use Rattle.task_table.specs.View.{row_of}
use Rattle.thread_view.proofs.Callers.{nobody-named, process-named, process-unnamed}
use Rattle.thread_view.proofs.find_process.Goals as goal

pub returns-in_default-clause-row : goal.returns-in_default-clause-row
returns-in_default-clause-row c i at =
    nobody-named c.args.store.now c.laws.ensures c.thread_laws.ensures c.requires c.args.space i c.args.number at
    (λ k on. c.in_default.ensures k (ap (λ b. number_of b k c.args.space) c.numbers.ensures ∙ on))

pub returns-in-Some-task-clause-row : goal.returns-in-Some-task-clause-row
returns-in-Some-task-clause-row c i at =
    let s = c.args.store.now in
    let key = c.in-Some.key in
    let here : number_of s.numbering key c.args.space ≡ Some c.args.number = ap (λ b. number_of b key c.args.space) (sym c.numbers.ensures) ∙ c.in-Some.ensures in
    let own : c.unwrap_or-process.result ≡ unwrap_or (thread_process s.threads key) key =
    c.unwrap_or-process.ensures ∙ ap (λ o. unwrap_or o key) (c.process.ensures ∙ ap (λ t. thread_process t key) c.threads.ensures) in
    process-named s c.laws.ensures c.thread_laws.ensures c.requires c.args.space i c.args.number at key c.in-Some-task.task here
    (ap (task_at s.tree) (sym own) ∙ ap (λ t. task_at t c.unwrap_or-process.result) (sym c.tree.ensures) ∙ sym c.task.ensures ∙ c.in-Some-task.is)
    ∙ ap (λ q. Some (row_of s q c.in-Some-task.task)) (sym own)

pub returns-in-None-clause-row : goal.returns-in-None-clause-row
returns-in-None-clause-row c i at =
    let s = c.args.store.now in
    let key = c.in-Some.key in
    let here : number_of s.numbering key c.args.space ≡ Some c.args.number = ap (λ b. number_of b key c.args.space) (sym c.numbers.ensures) ∙ c.in-Some.ensures in
    let own : c.unwrap_or-process.result ≡ unwrap_or (thread_process s.threads key) key =
    c.unwrap_or-process.ensures ∙ ap (λ o. unwrap_or o key) (c.process.ensures ∙ ap (λ t. thread_process t key) c.threads.ensures) in
    process-unnamed s c.laws.ensures c.thread_laws.ensures c.requires c.args.space i c.args.number at key here
    (ap (task_at s.tree) (sym own) ∙ ap (λ t. task_at t c.unwrap_or-process.result) (sym c.tree.ensures) ∙ sym c.task.ensures ∙ c.in-None.is)
