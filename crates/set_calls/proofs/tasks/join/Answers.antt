use Rattle.std.proofs.Common.{◌∙◌, sym, ap, subst, not}
use Rattle.pid_types.specs.declared.plain.Row.{Row}
use Rattle.pid_types.specs.declared.reply.Refusal.TheVariants.{NoCaller, NoTask}
use Rattle.pid_types.specs.declared.reply.Reply.TheVariants.{Done}
use Rattle.pid_types.specs.Names.{with_row, is_live}
use Rattle.pid_types.specs.Threads.{process_numbered}
use Rattle.pid_types.specs.Outcome.{Outcome, changed, for_found, refuse_if}
use Rattle.pid_types.specs.Changes.{join, set_children_space}
use Rattle.task_table.specs.Store.{Store, HasNoThreads}
use Rattle.task_table.specs.View.{name_at, row_of, state_of}
use Rattle.task_table.proofs.Changed.{retasked, updated}
use Rattle.set_calls.proofs.tasks.join.Goals as goal

pub returns-clause-state : goal.returns-clause-state
unfolding join
returns-clause-state c =
    let old = c.args.store.now in
    let new = c.update.new.self in
    let found = c.in-Some.found in
    let other = c.in-Some-find_task.other in
    let task = record found.task { children_space = c.own_id-children_space.result } in
    let goes : Row → Outcome = λ row. changed (with_row (state_of old) (name_at old.numbering found.key) (set_children_space row.name.space)) Done in
    let asked : Row → Outcome = λ row. refuse_if (state_of old) (not (is_live row)) NoTask (goes row) in
    sym (ap (λ o. (for_found (state_of old) o NoCaller (λ caller. for_found (state_of old) (process_numbered (state_of old) caller.name.space c.args.target) NoTask (λ row.
    refuse_if (state_of old) (not (is_live row)) NoTask (changed (with_row (state_of old) caller.name (set_children_space row.name.space)) Done)))).state) c.in-Some.ensures.row
    ∙ ap (λ o. (for_found (state_of old) o NoTask asked).state) (c.in-Some-find_task.ensures.row (name_at old.numbering found.key).space c.in-Some.ensures.id)
    ∙ ap (λ b. (refuse_if (state_of old) (not b) NoTask (goes (row_of old other.key other.task))).state) (sym c.is_live.ensures ∙ c.if-not-is_live.false)
    ∙ retasked old new c.laws.ensures c.laws-2.ensures found.key found.task task c.in-Some.ensures.there.0 (updated old new found.key task c.update.ensures.tasks c.update.ensures.rest)
    (subst HasNoThreads (sym (ap (λ (s : Store). s.threads) c.update.ensures.rest)) c.requires.alone)
    (set_children_space (name_at old.numbering other.key).space) (λ i. record (row_of old found.key found.task) { children_space = sym c.own_id-children_space.ensures i }))

pub returns-clause-threads : goal.returns-clause-threads
returns-clause-threads c = ap (λ (s : Store). s.threads) c.update.ensures.rest
