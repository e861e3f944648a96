use Rattle.std.proofs.Common.{ap, ◌∙◌}
use Rattle.pid_types.specs.State.{State}
use Rattle.pid_types.specs.Changes.{exec}
use Rattle.thread_view.proofs.Alone.{full-alone, full-whole}
use Rattle.pid_table.proofs.alone.would_exec.Goals as goal

pub would_exec-requires : goal.would_exec-requires
would_exec-requires c = full-whole c.args.store.now c.requires.alone c.requires

pub returns : goal.returns
returns c = c.would_exec.ensures ∙ ap (λ (s : State). (exec s c.args.caller).reply) (full-alone c.args.store.now c.requires.alone)
