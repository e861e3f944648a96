use Rattle.std.proofs.Common.{ap, ◌∙◌}
use Rattle.pid_types.specs.State.{State}
use Rattle.pid_types.specs.Exit.{exit}
use Rattle.thread_view.proofs.Alone.{full-alone, full-whole}
use Rattle.pid_table.proofs.alone.would_exit.Goals as goal

pub would_exit-requires : goal.would_exit-requires
would_exit-requires c = full-whole c.args.store.now c.requires.alone c.requires

pub returns : goal.returns
returns c = c.would_exit.ensures ∙ ap (λ (s : State). (exit s c.args.caller c.args.status).reply) (full-alone c.args.store.now c.requires.alone)
