-- That nobody is in a group of the caller's key is that no row names one after it; then one membership changed is one row changed
use Rattle.std.proofs.Common.{◌∙◌, sym, ap, subst, refl}
use Rattle.pid_types.specs.declared.reply.Reply.TheVariants.{Number}
use Rattle.pid_types.specs.Outcome.{Outcome, refused}
use Rattle.pid_types.specs.Groups.{start_session}
use Rattle.groups_sessions.specs.Membership.{Membership}
use Rattle.task_table.specs.Store.{HasNoThreads}
use Rattle.task_table.specs.View.{state_of}
use Rattle.task_table.proofs.Regrouped.{IsRegrouped, regrouped, parents-regrouped}
use Rattle.set_calls.proofs.Led.{refuses, leads}
use Rattle.set_calls.proofs.groups.set_sid.Goals as goal

pub returns-in-Err : goal.returns-in-Err
returns-in-Err c =
    let s = c.args.store.now in
    let found = c.in-Some.found in
    let is =
    refuses s c.laws.ensures found.key found.task c.in-Some.ensures.there.0 c.args.caller c.in-Some.ensures.row (rw c.members.ensures at c.in-Err.ensures.1)
    ∙ ap (refused (state_of s)) (sym c.in-Err.ensures.0) in
    record {
      state = sym (ap (λ (o : Outcome). o.state) is);
      reply = sym (ap (λ (o : Outcome). o.reply) is);
      parents = c.requires.parents;
      threads = refl;
    }

pub returns-in-Ok : goal.returns-in-Ok
returns-in-Ok c =
    let old = c.args.store.now in
    let new = c.start_session.new.self in
    let found = c.in-Some.found in
    let member : Membership = record { group = found.key; session = found.key } in
    let r : IsRegrouped old new found.key member = record {
      members = c.start_session.ensures.members;
      numbers = c.start_session.ensures.numbers;
      tree = c.start_session.ensures.rest.0;
      charges = c.start_session.ensures.rest.1;
    } in
    let is = leads old c.laws.ensures found.key found.task c.in-Some.ensures.there.0 c.args.caller c.in-Some.ensures.row (rw c.members.ensures at c.in-Ok.ensures) in
    record {
      state = sym (ap (λ (o : Outcome). o.state) is ∙ regrouped old new c.laws.ensures c.laws-in-Ok.ensures c.requires.parents found.key found.task c.in-Some.ensures.there.0 member r (subst HasNoThreads (sym c.start_session.ensures.threads) c.requires.alone) start_session refl);
      reply = ap Number c.own_number-number.ensures ∙ sym (ap (λ (o : Outcome). o.reply) is);
      parents = parents-regrouped old new c.laws.ensures c.laws-in-Ok.ensures c.requires.parents found.key found.task c.in-Some.ensures.there.0 member r;
      threads = c.start_session.ensures.threads;
    }
