-- Whether somebody is in the caller's group is asked by key, as setsid does
use Rattle.std.proofs.Common.{◌∙◌, sym, ap}
use Rattle.pid_types.specs.declared.reply.Reply.TheVariants.{Number}
use Rattle.pid_types.specs.Outcome.{Outcome, refused}
use Rattle.task_table.specs.View.{state_of}
use Rattle.set_calls.proofs.Led.{refuses, leads}
use Rattle.set_calls.proofs.groups.would_set_sid.Goals as goal

pub returns-in-Err : goal.returns-in-Err
returns-in-Err c =
    let s = c.args.store.now in
    let found = c.in-Some.found in
    sym (ap (λ (o : Outcome). o.reply)
    (refuses s c.laws.ensures found.key found.task c.in-Some.ensures.there.0 c.args.caller c.in-Some.ensures.row (rw c.members.ensures at c.in-Err.ensures.1)
    ∙ ap (refused (state_of s)) (sym c.in-Err.ensures.0)))

pub returns-in-Ok : goal.returns-in-Ok
returns-in-Ok c =
    let s = c.args.store.now in
    let found = c.in-Some.found in
    let is = leads s c.laws.ensures found.key found.task c.in-Some.ensures.there.0 c.args.caller c.in-Some.ensures.row (rw c.members.ensures at c.in-Ok.ensures) in
    ap Number c.own_number.ensures ∙ sym (ap (λ (o : Outcome). o.reply) is)
