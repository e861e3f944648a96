-- Who is the last thread is told by what leaves beside others; then the leave is an exit
use Rattle.std.proofs.Common.{sym, ap, ◌∙◌}
use Rattle.pid_types.specs.Exit.{exit}
use Rattle.pid_types.specs.Outcome.{Outcome}
use Rattle.task_table.specs.Store.{Store}
use Rattle.thread_view.specs.Full.{full_state}
use Rattle.ns_teardown.proofs.Exits.{leave-last}
use Rattle.ns_teardown.proofs.leave.Goals as goal

pub returns-clause-state : goal.returns-clause-state
returns-clause-state c =
    let last = c.in_default.ensures.left in
    c.exit.ensures.state ∙ ap (λ (s : Store). (exit (full_state s) c.args.caller c.args.status).state) last.0
    ∙ sym (ap (λ (o : Outcome). o.state) (leave-last (full_state c.args.store.now) c.args.caller c.args.status last.1.0 last.1.1 last.1.2))

pub returns-clause-reply : goal.returns-clause-reply
returns-clause-reply c =
    let last = c.in_default.ensures.left in
    c.exit.ensures.reply ∙ ap (λ (s : Store). (exit (full_state s) c.args.caller c.args.status).reply) last.0
    ∙ sym (ap (λ (o : Outcome). o.reply) (leave-last (full_state c.args.store.now) c.args.caller c.args.status last.1.0 last.1.1 last.1.2))
