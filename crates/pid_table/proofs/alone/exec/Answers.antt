use Rattle.std.proofs.Common.{sym, ap, ◌∙◌}
use Rattle.pid_types.specs.State.{State}
use Rattle.pid_types.specs.Changes.{exec}
use Rattle.thread_view.proofs.Alone.{full-alone, full-whole}
use Rattle.pid_table.proofs.alone.exec.Goals as goal

pub exec-requires : goal.exec-requires
exec-requires c = full-whole c.args.store.now c.requires.alone c.requires

pub returns-clause-state : goal.returns-clause-state
returns-clause-state c =
    sym (full-alone c.exec.new.store (c.exec.ensures.alone c.requires.alone)) ∙ c.exec.ensures.state
    ∙ ap (λ (s : State). (exec s c.args.caller).state) (full-alone c.args.store.now c.requires.alone)

pub returns-clause-reply : goal.returns-clause-reply
returns-clause-reply c = c.exec.ensures.reply ∙ ap (λ (s : State). (exec s c.args.caller).reply) (full-alone c.args.store.now c.requires.alone)
