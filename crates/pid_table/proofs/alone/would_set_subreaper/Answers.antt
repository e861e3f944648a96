use Rattle.std.proofs.Common.{ap, ◌∙◌}
use Rattle.pid_types.specs.State.{State}
use Rattle.pid_types.specs.Changes.{set_subreaper}
use Rattle.thread_view.proofs.Alone.{full-alone, full-whole}
use Rattle.pid_table.proofs.alone.would_set_subreaper.Goals as goal

pub would_set_subreaper-requires : goal.would_set_subreaper-requires
would_set_subreaper-requires c = full-whole c.args.store.now c.requires.alone c.requires

pub returns : goal.returns
returns c = c.would_set_subreaper.ensures ∙ ap (λ (s : State). (set_subreaper s c.args.caller c.args.on).reply) (full-alone c.args.store.now c.requires.alone)
