use Rattle.std.proofs.Common.{ap, ◌∙◌}
use Rattle.pid_types.specs.State.{State}
use Rattle.pid_types.specs.Queries.{get_pid}
use Rattle.thread_view.proofs.Alone.{full-alone, full-whole}
use Rattle.pid_table.proofs.alone.get_pid.Goals as goal

pub get_pid-requires : goal.get_pid-requires
get_pid-requires c = full-whole c.args.store.now c.requires.alone c.requires

pub returns : goal.returns
returns c = c.get_pid.ensures.value ∙ ap (λ (s : State). get_pid s c.args.caller) (full-alone c.args.store.now c.requires.alone)
