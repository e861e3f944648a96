use Rattle.std.proofs.Common.{ap, ◌∙◌}
use Rattle.pid_types.specs.State.{State}
use Rattle.pid_types.specs.Queries.{get_ppid}
use Rattle.thread_view.proofs.Alone.{full-alone, full-whole}
use Rattle.pid_table.proofs.alone.get_ppid.Goals as goal

pub get_ppid-requires : goal.get_ppid-requires
get_ppid-requires c = full-whole c.args.store.now c.requires.alone c.requires

pub returns : goal.returns
returns c = c.get_ppid.ensures.value ∙ ap (λ (s : State). get_ppid s c.args.caller) (full-alone c.args.store.now c.requires.alone)
