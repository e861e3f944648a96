use Rattle.std.proofs.Common.{◌∙◌, sym, ap, subst, is_some}
use Rattle.pid_types.proofs.General.{held}
use Rattle.pid_types.specs.declared.reply.Refusal.TheVariants.{NoTask, NoControl}
use Rattle.pid_types.specs.declared.reply.Reply.TheVariants.{Done}
use Rattle.pid_types.specs.Names.{with_row}
use Rattle.pid_types.specs.Controls.{control_at}
use Rattle.pid_types.specs.Outcome.{changed, for_found}
use Rattle.pid_types.specs.Changes.{move_task, set_home, with_home}
use Rattle.pids_charge.specs.Charges.{home_id}
use Rattle.task_table.specs.Store.{Store, HasNoThreads}
use Rattle.task_table.specs.View.{name_at, row_of, state_of}
use Rattle.task_table.proofs.Changed.{retasked, rehomed}
use Rattle.set_calls.proofs.tasks.move_task.Goals as goal

pub returns-clause-state : goal.returns-clause-state
unfolding move_task with_home with_row
returns-clause-state c =
    let old = c.args.store.now in
    let new = c.move_home.new.self in
    let found = c.in-Some.found in
    let task = record found.task { home = c.in-Some-find.home } in
    let control = held (control_at old.charges.controls c.args.id) (ap (λ v. is_some (control_at v.controls c.args.id)) (sym c.controls.ensures) ∙ c.in-Some-find.ensures.there) in
    sym (ap (λ o. (for_found (state_of old) o NoTask (λ row. for_found (state_of old) (control_at old.charges.controls c.args.id) NoControl (λ g. changed (with_home (state_of old) row.name c.args.id) Done))).state) c.in-Some.ensures.row
    ∙ ap (λ o. (for_found (state_of old) o NoControl (λ g. changed (with_home (state_of old) (name_at old.numbering found.key) c.args.id) Done)).state) control.1
    ∙ retasked old new c.laws.ensures c.laws-2.ensures found.key found.task task c.in-Some.ensures.there.0
    (rehomed old new found.key task found.task.home c.in-Some-find.home c.move_home.ensures.tasks c.move_home.ensures.controls c.move_home.ensures.homes c.move_home.ensures.rest)
    (subst HasNoThreads (sym (ap (λ (s : Store). s.threads) c.move_home.ensures.rest)) c.requires.alone)
    (set_home (state_of old) c.args.id) (λ i. record (row_of old found.key found.task) { home = sym (ap (λ v. home_id v c.in-Some-find.home) (sym c.controls.ensures) ∙ c.in-Some-find.ensures.id) i }))

pub returns-clause-threads : goal.returns-clause-threads
returns-clause-threads c = ap (λ (s : Store). s.threads) c.move_home.ensures.rest

pub move_home-requires-clause-stays : goal.move_home-requires-clause-stays
move_home-requires-clause-stays c = c.requires.alone.stays c.in-Some.found.key
