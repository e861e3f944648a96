use Rattle.std.proofs.Common.{ap, ◌∙◌}
use Rattle.pid_types.specs.State.{State}
use Rattle.pid_types.specs.Queries.{get_sid}
use Rattle.thread_view.proofs.Alone.{full-alone, full-whole}
use Rattle.pid_table.proofs.alone.get_sid.Goals as goal

pub get_sid-requires : goal.get_sid-requires
get_sid-requires c = full-whole c.args.store.now c.requires.alone c.requires

pub returns : goal.returns
returns c = c.get_sid.ensures.value ∙ ap (λ (s : State). get_sid s c.args.caller c.args.pid) (full-alone c.args.store.now c.requires.alone)
