use Rattle.std.proofs.Common.{sym, ap, subst, ◌∙◌}
use Rattle.pid_types.specs.State.{State}
use Rattle.pid_types.specs.Changes.{set_subreaper}
use Rattle.task_table.specs.Store.{HasNoThreads}
use Rattle.thread_view.proofs.Alone.{full-alone, full-whole}
use Rattle.pid_table.proofs.alone.set_subreaper.Goals as goal

pub set_subreaper-requires : goal.set_subreaper-requires
set_subreaper-requires c = full-whole c.args.store.now c.requires.alone c.requires

pub returns-clause-state : goal.returns-clause-state
returns-clause-state c =
    sym (full-alone c.set_subreaper.new.store (subst HasNoThreads (sym c.set_subreaper.ensures.threads) c.requires.alone)) ∙ c.set_subreaper.ensures.state
    ∙ ap (λ (s : State). (set_subreaper s c.args.caller c.args.on).state) (full-alone c.args.store.now c.requires.alone)

pub returns-clause-reply : goal.returns-clause-reply
returns-clause-reply c = c.set_subreaper.ensures.reply ∙ ap (λ (s : State). (set_subreaper s c.args.caller c.args.on).reply) (full-alone c.args.store.now c.requires.alone)

pub returns-clause-alone : goal.returns-clause-alone
returns-clause-alone c = subst HasNoThreads (sym c.set_subreaper.ensures.threads) c.requires.alone
