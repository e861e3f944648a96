use Rattle.std.proofs.Common.{ap, ◌∙◌}
use Rattle.pid_types.specs.State.{State}
use Rattle.pid_types.specs.Changes.{count_tasks}
use Rattle.thread_view.proofs.Alone.{full-alone}
use Rattle.pid_table.proofs.alone.count.Goals as goal

pub returns : goal.returns
returns c = c.count.ensures.reply ∙ ap (λ (s : State). (count_tasks s c.args.id).reply) (full-alone c.args.store.now c.requires.alone)
