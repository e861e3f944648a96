use Rattle.std.proofs.Common.{ap, ◌∙◌}
use Rattle.pid_types.specs.State.{State}
use Rattle.pid_types.specs.Queries.{next}
use Rattle.thread_view.proofs.Alone.{full-alone, full-whole}
use Rattle.pid_table.proofs.alone.next.Goals as goal

pub next-requires : goal.next-requires
next-requires c = full-whole c.args.store.now c.requires.alone c.requires

pub returns : goal.returns
returns c = c.next.ensures.value ∙ ap (λ (s : State). next s c.args.caller c.args.kind c.args.from) (full-alone c.args.store.now c.requires.alone)
