use Rattle.std.proofs.Common.{sym, ap, subst, ◌∙◌}
use Rattle.pid_types.specs.State.{State}
use Rattle.pid_types.specs.Wait.{wait}
use Rattle.task_table.specs.Store.{HasNoThreads}
use Rattle.thread_view.proofs.Alone.{full-alone, full-whole}
use Rattle.pid_table.proofs.alone.wait.Goals as goal

pub wait-requires : goal.wait-requires
wait-requires c = full-whole c.args.store.now c.requires.alone c.requires

pub returns-clause-state : goal.returns-clause-state
returns-clause-state c =
    sym (full-alone c.wait.new.store (subst HasNoThreads (sym c.wait.ensures.threads) c.requires.alone)) ∙ c.wait.ensures.state
    ∙ ap (λ (s : State). (wait s c.args.caller c.args.which).state) (full-alone c.args.store.now c.requires.alone)

pub returns-clause-reply : goal.returns-clause-reply
returns-clause-reply c = c.wait.ensures.reply ∙ ap (λ (s : State). (wait s c.args.caller c.args.which).reply) (full-alone c.args.store.now c.requires.alone)

pub returns-clause-alone : goal.returns-clause-alone
returns-clause-alone c = subst HasNoThreads (sym c.wait.ensures.threads) c.requires.alone
