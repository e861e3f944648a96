-- Number 1 in the root or in its own namespace decides which of three ends it is: the test by key is the model's by name
use Rattle.std.proofs.Common.{sym, ap, ◌∙◌}
use Rattle.pid_types.specs.Outcome.{Outcome}
use Rattle.pid_numbers.specs.Numbering.{number_of}
use Rattle.task_table.specs.View.{row_of}
use Rattle.thread_view.specs.Full.{full_state}
use Rattle.ns_teardown.proofs.Exits.{is-one, is-not-one, first-in-root, first-in-own, exit-refused, exit-falls, exit-ends, whole-after}
use Rattle.ns_teardown.proofs.exit.Goals as goal

pub returns-then-is_first : goal.returns-then-is_first
returns-then-is_first c =
    let old = c.args.store.now in
    let found = c.in-Some.found in
    let top = sym (first-in-root old c.laws.ensures found.key found.task c.in-Some.ensures.there.0) ∙ sym c.is_first.ensures ∙ c.if-is_first.true in
    let is = exit-refused (full_state old) c.args.caller c.args.status (row_of old found.key found.task) c.in-Some.ensures.row top in
    record { state = sym (ap (λ (o : Outcome). o.state) is); reply = sym (ap (λ (o : Outcome). o.reply) is); full = c.requires; alone = λ a. a }

pub is_inner_init-requires : goal.is_inner_init-requires
is_inner_init-requires c = sym c.is_first.ensures ∙ c.if-is_first.false

pub end_init-requires-clause-top : goal.end_init-requires-clause-top
end_init-requires-clause-top c u at =
    let b = c.args.store.now.numbering in
    let key = c.in-Some.found.key in
    let space = c.in-Some.ensures.own u at in
    let first = is-one (number_of b key c.in-Some.found.space) (sym c.is_inner_init.ensures ∙ c.if-is_inner_init.true) in
    (ap (number_of b key) (sym space) ∙ first, λ root. is-not-one (number_of b key 0) (sym c.is_first.ensures ∙ c.if-is_first.false) (ap (number_of b key) (sym root ∙ sym space) ∙ first))

pub end_task-requires-clause-inner : goal.end_task-requires-clause-inner
end_task-requires-clause-inner c u at same =
    let b = c.args.store.now.numbering in
    let key = c.in-Some.found.key in
    is-not-one (number_of b key c.in-Some.found.space) (sym c.is_inner_init.ensures ∙ c.if-is_inner_init.false) (ap (number_of b key) (c.in-Some.ensures.own u at) ∙ same)

pub returns-then-is_inner_init : goal.returns-then-is_inner_init
returns-then-is_inner_init c =
    let old = c.args.store.now in
    let found = c.in-Some.found in
    let row = row_of old found.key found.task in
    let there = c.in-Some.ensures.there.0 in
    let top = sym (first-in-root old c.laws.ensures found.key found.task there) ∙ sym c.is_first.ensures ∙ c.if-is_first.false in
    let own = first-in-own old c.laws.ensures found.key found.task there c.in-Some.found.space c.in-Some.ensures.id ∙ sym c.is_inner_init.ensures in
    let is = exit-falls (full_state old) c.args.caller c.args.status row c.in-Some.ensures.row top (own ∙ c.if-is_inner_init.true) in
    record { state = c.end_init.ensures.state ∙ sym (ap (λ (o : Outcome). o.state) is); reply = sym (ap (λ (o : Outcome). o.reply) is); full = whole-after old c.end_init.new.store c.args.caller c.args.status c.requires (c.end_init.ensures.state ∙ sym (ap (λ (o : Outcome). o.state) is)) c.end_init.ensures.parents c.end_init.ensures.processes; alone = c.end_init.ensures.alone }

pub returns-else-is_inner_init : goal.returns-else-is_inner_init
returns-else-is_inner_init c =
    let old = c.args.store.now in
    let found = c.in-Some.found in
    let row = row_of old found.key found.task in
    let there = c.in-Some.ensures.there.0 in
    let top = sym (first-in-root old c.laws.ensures found.key found.task there) ∙ sym c.is_first.ensures ∙ c.if-is_first.false in
    let own = first-in-own old c.laws.ensures found.key found.task there c.in-Some.found.space c.in-Some.ensures.id ∙ sym c.is_inner_init.ensures in
    let is = exit-ends (full_state old) c.args.caller c.args.status row c.in-Some.ensures.row top (own ∙ c.if-is_inner_init.false) in
    record { state = c.end_task.ensures.state ∙ sym (ap (λ (o : Outcome). o.state) is); reply = sym (ap (λ (o : Outcome). o.reply) is); full = whole-after old c.end_task.new.store c.args.caller c.args.status c.requires (c.end_task.ensures.state ∙ sym (ap (λ (o : Outcome). o.state) is)) c.end_task.ensures.parents c.end_task.ensures.processes; alone = c.end_task.ensures.alone }
