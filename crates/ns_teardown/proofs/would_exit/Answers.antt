-- Number 1 in the root is refused; what ends otherwise, a namespace with it or not, is answered alike
use Rattle.std.proofs.Common.{sym, ap, ◌∙◌}
use Rattle.pid_types.specs.Outcome.{Outcome}
use Rattle.task_table.specs.View.{row_of}
use Rattle.thread_view.specs.Full.{full_state}
use Rattle.ns_teardown.proofs.Exits.{first-in-root, exit-refused, exit-done}
use Rattle.ns_teardown.proofs.would_exit.Goals as goal

pub returns-then-is_first : goal.returns-then-is_first
returns-then-is_first c =
    let old = c.args.store.now in
    let found = c.in-Some.found in
    let top = sym (first-in-root old c.laws.ensures found.key found.task c.in-Some.ensures.there.0) ∙ sym c.is_first.ensures ∙ c.if-is_first.true in
    sym (ap (λ (o : Outcome). o.reply) (exit-refused (full_state old) c.args.caller c.args.status (row_of old found.key found.task) c.in-Some.ensures.row top))

pub returns : goal.returns
returns c =
    let old = c.args.store.now in
    let found = c.in-Some.found in
    let top = sym (first-in-root old c.laws.ensures found.key found.task c.in-Some.ensures.there.0) ∙ sym c.is_first.ensures ∙ c.if-is_first.false in
    exit-done (full_state old) c.args.caller c.args.status (row_of old found.key found.task) c.in-Some.ensures.row top
