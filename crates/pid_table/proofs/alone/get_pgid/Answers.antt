use Rattle.std.proofs.Common.{ap, ◌∙◌}
use Rattle.pid_types.specs.State.{State}
use Rattle.pid_types.specs.Queries.{get_pgid}
use Rattle.thread_view.proofs.Alone.{full-alone, full-whole}
use Rattle.pid_table.proofs.alone.get_pgid.Goals as goal

pub get_pgid-requires : goal.get_pgid-requires
get_pgid-requires c = full-whole c.args.store.now c.requires.alone c.requires

pub returns : goal.returns
returns c = c.get_pgid.ensures.value ∙ ap (λ (s : State). get_pgid s c.args.caller c.args.pid) (full-alone c.args.store.now c.requires.alone)
