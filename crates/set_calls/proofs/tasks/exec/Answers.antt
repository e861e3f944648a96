-- The process goes on in the thread that called, and then its other threads end
use Rattle.std.proofs.Common.{◌≡◌, ◌∙◌, true, Some, sym, ap, subst, refl}
use Rattle.pid_types.specs.declared.call.Call.TheVariants.{Exec}
use Rattle.pid_types.specs.declared.plain.Row.{Row}
use Rattle.pid_types.specs.declared.reply.Refusal.TheVariants.{NoCaller}
use Rattle.pid_types.specs.declared.reply.Reply.TheVariants.{Done}
use Rattle.pid_types.specs.Outcome.{changed, for_found, sweep}
use Rattle.pid_types.specs.Changes.{after_exec, exec, set_executed}
use Rattle.pid_types.specs.Step.{step}
use Rattle.pid_types.specs.Threads.{as_thread}
use Rattle.pid_numbers.specs.Numbering.{Numbering}
use Rattle.task_tree.specs.declared.Task.{Task}
use Rattle.task_tree.specs.Tree.{TreeOfTasks, task_at}
use Rattle.task_table.specs.Store.{IsLess}
use Rattle.task_table.specs.View.{row_of}
use Rattle.task_table.proofs.Drawn.{some_of}
use Rattle.thread_view.specs.Full.{full_state}
use Rattle.thread_view.proofs.StaysWhole.{stays-whole}
use Rattle.thread_ends.proofs.Endings.{ends-one}
use Rattle.thread_ends.proofs.KeptHomes.{KeepsHomes-trans}
use Rattle.set_calls.proofs.Lone.{GoesOn, lone, parents-lone, processes-lone}
use Rattle.set_calls.proofs.tasks.exec.Goals as goal

pub go_on-requires-clause-life : goal.go_on-requires-clause-life
go_on-requires-clause-life c =
    let s = c.args.store.now in
    let key = c.in-Some.calling.process in
    let by = c.in-Some.ensures in
    let was = c.in-Some-task.was in
    let at : task_at s.tree key ≡ Some was = ap (λ (t : TreeOfTasks). task_at t key) (sym c.tree.ensures) ∙ sym c.task.ensures ∙ c.in-Some-task.is in
    let same = some_of by.task was (sym by.there ∙ at) in
    let called : row_of s key c.calling_task-thread.result ≡ as_thread (full_state s) c.args.caller (row_of s key was) =
    c.calling_task-thread.ensures.row c.args.caller (row_of s key by.task) by by.row ∙ ap (λ (t : Task). as_thread (full_state s) c.args.caller (row_of s key t)) same in
    ap (λ (r : Row). r.life) called

pub returns-clause-state : goal.returns-clause-state
unfolding exec after_exec
returns-clause-state c =
    let s = c.args.store.now in
    let new = c.end_others.new.store in
    let key = c.in-Some.calling.process in
    let by = c.in-Some.ensures in
    let was = c.in-Some-task.was in
    let now : Task = record c.calling_task-thread.result { executed = true } in
    let at : task_at s.tree key ≡ Some was = ap (λ (t : TreeOfTasks). task_at t key) (sym c.tree.ensures) ∙ sym c.task.ensures ∙ c.in-Some-task.is in
    let same = some_of by.task was (sym by.there ∙ at) in
    let called : row_of s key c.calling_task-thread.result ≡ as_thread (full_state s) c.args.caller (row_of s key was) =
    c.calling_task-thread.ensures.row c.args.caller (row_of s key by.task) by by.row ∙ ap (λ (t : Task). as_thread (full_state s) c.args.caller (row_of s key t)) same in
    let g : GoesOn s new key now = record {
      tasks = ap (λ (t : TreeOfTasks). t.tasks) c.end_others.ensures.rest.0 ∙ c.go_on.ensures.tasks;
      parents = ap (λ (t : TreeOfTasks). t.parents) c.end_others.ensures.rest.0 ∙ c.go_on.ensures.parents;
      members = c.end_others.ensures.rest.1 ∙ c.go_on.ensures.rest.1;
      numbers = subst (λ (b : Numbering). IsLess b new.numbering) c.go_on.ensures.rest.0 c.end_others.ensures.numbers;
      homes = KeepsHomes-trans s.charges c.go_on.new.store.charges new.charges c.go_on.ensures.homes c.end_others.ensures.homes;
      threads = ends-one s.threads c.go_on.new.store.threads new.threads key c.go_on.ensures.threads c.end_others.ensures.threads c.end_others.ensures.left;
    } in
    sym (ap (λ o. (for_found (full_state s) o NoCaller (λ caller. changed (after_exec (full_state s) c.args.caller caller.name) Done)).state) by.row
    ∙ ap (λ (t : Task). sweep (after_exec (full_state s) c.args.caller (row_of s key t).name)) same
    ∙ lone s new c.laws.ensures c.laws-2.ensures c.thread_laws.ensures c.thread_laws-2.ensures c.requires key was now at g (set_executed (full_state s) c.args.caller)
    (ap (λ (r : Row). record r { executed = true }) (sym called)))

pub returns-clause-full : goal.returns-clause-full
unfolding step
returns-clause-full c =
    let s = c.args.store.now in
    let new = c.end_others.new.store in
    let key = c.in-Some.calling.process in
    let by = c.in-Some.ensures in
    let was = c.in-Some-task.was in
    let now : Task = record c.calling_task-thread.result { executed = true } in
    let at : task_at s.tree key ≡ Some was = ap (λ (t : TreeOfTasks). task_at t key) (sym c.tree.ensures) ∙ sym c.task.ensures ∙ c.in-Some-task.is in
    let g : GoesOn s new key now = record {
      tasks = ap (λ (t : TreeOfTasks). t.tasks) c.end_others.ensures.rest.0 ∙ c.go_on.ensures.tasks;
      parents = ap (λ (t : TreeOfTasks). t.parents) c.end_others.ensures.rest.0 ∙ c.go_on.ensures.parents;
      members = c.end_others.ensures.rest.1 ∙ c.go_on.ensures.rest.1;
      numbers = subst (λ (b : Numbering). IsLess b new.numbering) c.go_on.ensures.rest.0 c.end_others.ensures.numbers;
      homes = KeepsHomes-trans s.charges c.go_on.new.store.charges new.charges c.go_on.ensures.homes c.end_others.ensures.homes;
      threads = ends-one s.threads c.go_on.new.store.threads new.threads key c.go_on.ensures.threads c.end_others.ensures.threads c.end_others.ensures.left;
    } in
    stays-whole s new (Exec c.args.caller) refl c.requires (returns-clause-state c)
    (parents-lone s new c.laws.ensures c.laws-2.ensures c.thread_laws.ensures c.thread_laws-2.ensures c.requires key was now at g)
    (processes-lone s new c.laws.ensures c.laws-2.ensures c.thread_laws.ensures c.thread_laws-2.ensures c.requires key was now at g)
