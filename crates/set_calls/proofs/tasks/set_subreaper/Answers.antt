use Rattle.std.proofs.Common.{◌∙◌, sym, ap, subst, refl}
use Rattle.pid_types.specs.declared.call.Call.TheVariants.{SetSubreaper}
use Rattle.pid_types.specs.declared.reply.Refusal.TheVariants.{NoCaller}
use Rattle.pid_types.specs.declared.reply.Reply.TheVariants.{Done}
use Rattle.pid_types.specs.Names.{with_row}
use Rattle.pid_types.specs.Outcome.{changed, for_found}
use Rattle.pid_types.specs.Changes.{set_subreaper, set_mark}
use Rattle.pid_types.specs.Step.{step}
use Rattle.task_table.specs.Store.{Store}
use Rattle.task_table.proofs.Changed.{parents-retasked, updated}
use Rattle.thread_view.specs.Full.{full_state}
use Rattle.thread_view.proofs.StaysWhole.{stays-whole}
use Rattle.thread_ends.specs.Ending.{KeepsHomes}
use Rattle.thread_ends.proofs.KeptHomes.{KeepsHomes-refl}
use Rattle.set_calls.proofs.Still.{processes-retasked, retasked-still}
use Rattle.set_calls.proofs.tasks.set_subreaper.Goals as goal

pub returns-clause-state : goal.returns-clause-state
unfolding set_subreaper
returns-clause-state c =
    let old = c.args.store.now in
    let new = c.update.new.self in
    let task = record c.in-Some.found.task { subreaper = c.args.on } in
    let homes = subst (KeepsHomes old.charges) (sym (ap (λ (s : Store). s.charges) c.update.ensures.rest)) (KeepsHomes-refl old.charges) in
    sym (ap (λ o. (for_found (full_state old) o NoCaller (λ row. changed (with_row (full_state old) row.name (set_mark c.args.on)) Done)).state) c.in-Some.ensures.row
    ∙ retasked-still old new c.laws.ensures c.laws-2.ensures c.thread_laws.ensures c.thread_laws-2.ensures c.requires.processes c.in-Some.found.key c.in-Some.found.task task c.in-Some.ensures.there.0
    (updated old new c.in-Some.found.key task c.update.ensures.tasks c.update.ensures.rest) refl (ap (λ (s : Store). s.threads) c.update.ensures.rest) homes (set_mark c.args.on) refl)

pub returns-clause-threads : goal.returns-clause-threads
returns-clause-threads c = ap (λ (s : Store). s.threads) c.update.ensures.rest

pub returns-clause-full : goal.returns-clause-full
unfolding step
returns-clause-full c =
    let old = c.args.store.now in
    let new = c.update.new.self in
    let task = record c.in-Some.found.task { subreaper = c.args.on } in
    let homes = subst (KeepsHomes old.charges) (sym (ap (λ (s : Store). s.charges) c.update.ensures.rest)) (KeepsHomes-refl old.charges) in
    let r = updated old new c.in-Some.found.key task c.update.ensures.tasks c.update.ensures.rest in
    stays-whole old new (SetSubreaper c.args.caller c.args.on) refl c.requires (returns-clause-state c)
    (parents-retasked old new c.laws.ensures c.laws-2.ensures c.in-Some.found.key c.in-Some.found.task task c.in-Some.ensures.there.0 r c.requires.parents)
    (processes-retasked old new c.laws.ensures c.laws-2.ensures c.thread_laws.ensures c.thread_laws-2.ensures c.requires.processes c.in-Some.found.key c.in-Some.found.task task c.in-Some.ensures.there.0 r refl (ap (λ (s : Store). s.threads) c.update.ensures.rest) homes)
