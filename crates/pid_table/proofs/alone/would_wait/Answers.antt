use Rattle.std.proofs.Common.{ap, ◌∙◌}
use Rattle.pid_types.specs.State.{State}
use Rattle.pid_types.specs.Wait.{wait}
use Rattle.thread_view.proofs.Alone.{full-alone, full-whole}
use Rattle.pid_table.proofs.alone.would_wait.Goals as goal

pub would_wait-requires : goal.would_wait-requires
would_wait-requires c = full-whole c.args.store.now c.requires.alone c.requires

pub returns : goal.returns
returns c = c.would_wait.ensures ∙ ap (λ (s : State). (wait s c.args.caller c.args.which).reply) (full-alone c.args.store.now c.requires.alone)
