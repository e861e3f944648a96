-- Where no process has threads beside its first one, the state with threads is the one without
use Rattle.std.proofs.Common.{sym, ap, ◌∙◌}
use Rattle.pid_types.specs.State.{State}
use Rattle.pid_types.specs.Exit.{exit}
use Rattle.thread_view.proofs.Alone.{full-alone, full-whole}
use Rattle.pid_table.proofs.alone.exit.Goals as goal

pub exit-requires : goal.exit-requires
exit-requires c = full-whole c.args.store.now c.requires.alone c.requires

pub returns-clause-state : goal.returns-clause-state
returns-clause-state c =
    sym (full-alone c.exit.new.store (c.exit.ensures.alone c.requires.alone)) ∙ c.exit.ensures.state
    ∙ ap (λ (s : State). (exit s c.args.caller c.args.status).state) (full-alone c.args.store.now c.requires.alone)

pub returns-clause-reply : goal.returns-clause-reply
returns-clause-reply c = c.exit.ensures.reply ∙ ap (λ (s : State). (exit s c.args.caller c.args.status).reply) (full-alone c.args.store.now c.requires.alone)
