-- No namespace on the path is full, so only a control group can refuse; else one more task by key is one more row by number
use Rattle.std.proofs.Common.{◌∙◌, refl, sym, ap, rules, arith}
use Rattle.pid_types.specs.Outcome.{Outcome, unless_found}
use Rattle.pid_types.specs.Fork.{forked}
use Rattle.pids_charge.specs.Charges.{stands}
use Rattle.task_tree.specs.declared.Task.{Task}
use Rattle.task_table.specs.View.{name_at, row_of, state_of}
use Rattle.task_table.proofs.InUse.{live-home}
use Rattle.fork_calls.proofs.Plans.{room-ok}
use Rattle.fork_calls.proofs.Into as into
use Rattle.fork_calls.proofs.fork_planned.Goals as goal

pub fork-requires-clause-home : goal.fork-requires-clause-home
fork-requires-clause-home c =
    let found = c.requires.caller.found.there in
    ap (λ (t : Task). stands c.args.store.now.charges t.home) c.child_of-task.ensures
    ∙ live-home c.args.store.now c.laws.ensures c.args.found.now.key c.args.found.now.task found c.requires.caller.live (c.requires.whole.alone.stays c.args.found.now.key)

pub returns-in-Some-clause-state : goal.returns-in-Some-clause-state
returns-in-Some-clause-state c =
    let row = row_of c.args.store.now c.args.found.now.key c.args.found.now.task in
    let room = room-ok c.args.store.now c.laws.ensures c.requires.whole.alone c.args.space c.args.found.now.task.children_space c.requires.id (row_of c.args.store.now c.args.found.now.key c.args.found.now.task) c.requires.all ∙ sym c.passed_limit.ensures ∙ c.in-Some.is in
    let is = ap (λ o. unless_found (state_of c.args.store.now) o (λ r. r) (forked (state_of c.args.store.now) row c.args.found.now.task.children_space)) room in
    sym (ap (λ (o : Outcome). o.state) is)

pub returns-in-Some-clause-reply : goal.returns-in-Some-clause-reply
returns-in-Some-clause-reply c =
    let row = row_of c.args.store.now c.args.found.now.key c.args.found.now.task in
    let room = room-ok c.args.store.now c.laws.ensures c.requires.whole.alone c.args.space c.args.found.now.task.children_space c.requires.id (row_of c.args.store.now c.args.found.now.key c.args.found.now.task) c.requires.all ∙ sym c.passed_limit.ensures ∙ c.in-Some.is in
    let is = ap (λ o. unless_found (state_of c.args.store.now) o (λ r. r) (forked (state_of c.args.store.now) row c.args.found.now.task.children_space)) room in
    sym (ap (λ (o : Outcome). o.reply) is)

pub returns-clause-state : goal.returns-clause-state
returns-clause-state c =
    let room = room-ok c.args.store.now c.laws.ensures c.requires.whole.alone c.args.space c.args.found.now.task.children_space c.requires.id (row_of c.args.store.now c.args.found.now.key c.args.found.now.task) c.requires.all ∙ sym c.passed_limit.ensures ∙ c.in_default.is in
    into.into-state c.args.store.now c.fork.new.self c.laws.ensures c.laws-2.ensures c.requires.whole.alone c.requires.whole.parents c.in_ok-key.key c.args.found.now.key c.child_of-task.result c.args.found.now.task c.requires.caller.found.there
    c.args.space c.args.found.now.task.children_space c.args.numbers.now c.in_ok-key.ensures.begun c.in_ok-key.ensures.order c.in_ok-key.ensures.namespaces c.requires.id c.requires.planned
    c.child_of-task.ensures room

pub returns-clause-parents : goal.returns-clause-parents
returns-clause-parents c = grind arith

pub returns-clause-reply : goal.returns-clause-reply
returns-clause-reply c =
    let room = room-ok c.args.store.now c.laws.ensures c.requires.whole.alone c.args.space c.args.found.now.task.children_space c.requires.id (row_of c.args.store.now c.args.found.now.key c.args.found.now.task) c.requires.all ∙ sym c.passed_limit.ensures ∙ c.in_default.is in
    let own = (name_at c.args.store.now.numbering c.args.found.now.key).space in
    c.reply_for.ensures own
    (into.id-after c.args.store.now c.fork.new.self c.laws.ensures c.laws-2.ensures c.requires.whole.alone c.requires.whole.parents c.in_ok-key.key c.args.found.now.key c.child_of-task.result c.args.found.now.task c.requires.caller.found.there
    c.args.space c.args.found.now.task.children_space c.args.numbers.now c.in_ok-key.ensures.begun c.in_ok-key.ensures.order c.in_ok-key.ensures.namespaces c.requires.id c.requires.planned
    c.child_of-task.ensures room
    c.args.found.now.space own c.requires.caller.found.own)
    ∙ into.into-reply c.args.store.now c.fork.new.self c.laws.ensures c.laws-2.ensures c.requires.whole.alone c.requires.whole.parents c.in_ok-key.key c.args.found.now.key c.child_of-task.result c.args.found.now.task c.requires.caller.found.there
    c.args.space c.args.found.now.task.children_space c.args.numbers.now c.in_ok-key.ensures.begun c.in_ok-key.ensures.order c.in_ok-key.ensures.namespaces c.requires.id c.requires.planned
    c.child_of-task.ensures room
    own refl

pub returns-clause-err : goal.returns-clause-err
returns-clause-err c = search rules

pub returns-clause-threads : goal.returns-clause-threads
returns-clause-threads c = c.in_ok-key.ensures.begun.threads
