-- The choice is that of a wait, and so is the row that it would reap
use Rattle.std.proofs.Common.{◌≡◌, ℕ, Some, sym, ap, ◌∙◌}
use Rattle.pid_types.specs.declared.plain.Ended.{Ended}
use Rattle.pid_types.specs.declared.reply.Reply.TheVariants.{Reaped}
use Rattle.pid_types.specs.Outcome.{Outcome}
use Rattle.pid_types.specs.Wait.{end_of}
use Rattle.task_tree.specs.declared.Task.{Task}
use Rattle.task_tree.specs.Tree.{TreeOfTasks, task_at}
use Rattle.task_table.specs.View.{row_of}
use Rattle.thread_view.specs.Full.{full_state}
use Rattle.wait_calls.proofs.Reaped.{wait-reaps}
use Rattle.wait_calls.proofs.would.would_wait.Goals as goal

pub returns-in-Some-task : goal.returns-in-Some-task
returns-in-Some-task c =
    let s = c.args.store.now in
    let child = c.in-Ended.child in
    let h = c.in-Ended.ensures in
    let row = row_of s child (h.1).0 in
    let task : Some c.in-Some-task.task ≡ Some (h.1).0 = c.in-Some-task.ensures ∙ ap (λ (t : TreeOfTasks). task_at t child) c.tree.ensures ∙ (h.1).1 in
    let same : c.in-Some-task.task ≡ (h.1).0 = cc in
    let end_is : c.end_of_life.result ≡ end_of row = c.end_of_life.ensures ∙ ap (λ (t : Task). end_of (row_of s child t)) same in
    let is = wait-reaps (full_state s) c.args.caller c.args.which (row_of s c.in-Some.found.key c.in-Some.found.task) row c.in-Some.ensures.row h.0 (h.1).3 in
    ap (λ (e : Ended). Reaped c.in-Ended.rank e) end_is ∙ ap (λ (n : ℕ). Reaped n (end_of row)) (sym h.2) ∙ sym (ap (λ (o : Outcome). o.reply) is)
