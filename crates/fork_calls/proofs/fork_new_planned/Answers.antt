-- The model draws in a state that has the new namespace already, the code in one that lacks it: the path around it is one in both
use Rattle.std.proofs.Common.{◌∙◌, sym, ap, refl, arith}
use Rattle.pid_types.specs.Outcome.{Outcome, unless_found}
use Rattle.pid_types.specs.Fork.{forked, with_space}
use Rattle.pids_charge.specs.Charges.{stands}
use Rattle.task_tree.specs.declared.Task.{Task}
use Rattle.task_table.specs.View.{name_at, row_of, state_of}
use Rattle.task_table.proofs.InUse.{live-home}
use Rattle.fork_calls.proofs.Inside as inside
use Rattle.fork_calls.proofs.Inner as inner
use Rattle.fork_calls.proofs.fork_new_planned.Goals as goal

pub fork_new-requires-clause-home : goal.fork_new-requires-clause-home
fork_new-requires-clause-home c =
    ap (λ (t : Task). stands c.args.store.now.charges t.home) c.child_of-task.ensures ∙ live-home c.args.store.now c.laws.ensures c.args.found.now.key c.args.found.now.task c.requires.caller.found.there c.requires.caller.live
    (c.requires.whole.alone.stays c.args.found.now.key)

pub fork_new-requires-clause-outer : goal.fork_new-requires-clause-outer
fork_new-requires-clause-outer c = inside.outer c.args.store.now c.laws.ensures c.requires.whole c.args.stamp c.requires.below c.args.found.now.space c.args.found.now.task.children_space c.requires.id c.requires.stands c.requires.shallow

pub fork_new-requires-clause-shallow : goal.fork_new-requires-clause-shallow
fork_new-requires-clause-shallow c = inside.path-short c.args.store.now c.laws.ensures c.requires.whole c.args.stamp c.requires.below c.args.found.now.space c.args.found.now.task.children_space c.requires.id c.requires.stands c.requires.shallow

pub fork_new-requires-clause-above : goal.fork_new-requires-clause-above
fork_new-requires-clause-above c = inside.ids-below c.args.store.now c.laws.ensures c.requires.whole c.args.stamp c.requires.below c.args.found.now.space c.args.found.now.task.children_space c.requires.id c.requires.stands c.requires.shallow

pub returns-in-Some-clause-state : goal.returns-in-Some-clause-state
returns-in-Some-clause-state c =
    let row = row_of c.args.store.now c.args.found.now.key c.args.found.now.task in
    let room = inside.room-ok_new c.args.store.now c.laws.ensures c.requires.whole c.args.stamp c.requires.below c.args.found.now.space c.args.found.now.task.children_space c.requires.id c.requires.stands c.requires.shallow
    (row_of c.args.store.now c.args.found.now.key c.args.found.now.task) c.requires.all ∙ sym c.passed_limit.ensures ∙ c.in-Some.is in
    let is = ap (λ o. unless_found (state_of c.args.store.now) o (λ r. r) (forked (with_space (state_of c.args.store.now) c.args.found.now.task.children_space c.args.stamp) row c.args.stamp)) room in
    sym (ap (λ (o : Outcome). o.state) is)

pub returns-in-Some-clause-reply : goal.returns-in-Some-clause-reply
returns-in-Some-clause-reply c =
    let row = row_of c.args.store.now c.args.found.now.key c.args.found.now.task in
    let room = inside.room-ok_new c.args.store.now c.laws.ensures c.requires.whole c.args.stamp c.requires.below c.args.found.now.space c.args.found.now.task.children_space c.requires.id c.requires.stands c.requires.shallow
    (row_of c.args.store.now c.args.found.now.key c.args.found.now.task) c.requires.all ∙ sym c.passed_limit.ensures ∙ c.in-Some.is in
    let is = ap (λ o. unless_found (state_of c.args.store.now) o (λ r. r) (forked (with_space (state_of c.args.store.now) c.args.found.now.task.children_space c.args.stamp) row c.args.stamp)) room in
    sym (ap (λ (o : Outcome). o.reply) is)

pub returns-clause-state : goal.returns-clause-state
returns-clause-state c =
    let room = inside.room-ok_new c.args.store.now c.laws.ensures c.requires.whole c.args.stamp c.requires.below c.args.found.now.space c.args.found.now.task.children_space c.requires.id c.requires.stands c.requires.shallow
    (row_of c.args.store.now c.args.found.now.key c.args.found.now.task) c.requires.all ∙ sym c.passed_limit.ensures ∙ c.in_default.is in
    inner.inner-state c.args.store.now c.laws.ensures c.requires.whole c.args.stamp c.requires.below c.args.found.now.space c.args.found.now.task.children_space c.requires.id c.requires.stands c.requires.shallow
    c.fork_new.new.self c.laws-2.ensures c.in_ok-keys.keys.0 c.args.found.now.key c.child_of-task.result c.args.found.now.task c.requires.caller.found.there c.in_ok-keys.keys.1 c.args.numbers.now
    c.in_ok-keys.ensures.begun c.in_ok-keys.ensures.fresh c.in_ok-keys.ensures.made c.in_ok-keys.ensures.namespaces c.in_ok-keys.ensures.order c.requires.planned c.child_of-task.ensures room

pub returns-clause-reply : goal.returns-clause-reply
returns-clause-reply c =
    let room = inside.room-ok_new c.args.store.now c.laws.ensures c.requires.whole c.args.stamp c.requires.below c.args.found.now.space c.args.found.now.task.children_space c.requires.id c.requires.stands c.requires.shallow
    (row_of c.args.store.now c.args.found.now.key c.args.found.now.task) c.requires.all ∙ sym c.passed_limit.ensures ∙ c.in_default.is in
    let own = (name_at c.args.store.now.numbering c.args.found.now.key).space in
    c.reply_for.ensures own
    (inner.id-after c.args.store.now c.laws.ensures c.requires.whole c.args.stamp c.requires.below c.args.found.now.space c.args.found.now.task.children_space c.requires.id c.requires.stands c.requires.shallow
    c.fork_new.new.self c.laws-2.ensures c.in_ok-keys.keys.0 c.args.found.now.key c.child_of-task.result c.args.found.now.task c.requires.caller.found.there c.in_ok-keys.keys.1 c.args.numbers.now
    c.in_ok-keys.ensures.begun c.in_ok-keys.ensures.fresh c.in_ok-keys.ensures.made c.in_ok-keys.ensures.namespaces c.in_ok-keys.ensures.order c.requires.planned c.child_of-task.ensures room
    c.args.found.now.space own c.requires.caller.found.own)
    ∙ inner.inner-reply c.args.store.now c.laws.ensures c.requires.whole c.args.stamp c.requires.below c.args.found.now.space c.args.found.now.task.children_space c.requires.id c.requires.stands c.requires.shallow
    c.fork_new.new.self c.laws-2.ensures c.in_ok-keys.keys.0 c.args.found.now.key c.child_of-task.result c.args.found.now.task c.requires.caller.found.there c.in_ok-keys.keys.1 c.args.numbers.now
    c.in_ok-keys.ensures.begun c.in_ok-keys.ensures.fresh c.in_ok-keys.ensures.made c.in_ok-keys.ensures.namespaces c.in_ok-keys.ensures.order c.requires.planned c.child_of-task.ensures room
    own refl

pub fork_new-requires-clause-all : goal.fork_new-requires-clause-all
fork_new-requires-clause-all c = c.requires.all

pub fork_new-requires-clause-planned : goal.fork_new-requires-clause-planned
fork_new-requires-clause-planned c = c.requires.planned

pub returns-clause-parents : goal.returns-clause-parents
returns-clause-parents c = grind arith

pub returns-clause-threads : goal.returns-clause-threads
returns-clause-threads c = c.in_ok-keys.ensures.begun.threads
