use Rattle.plain_table.proofs.Drawn.{threaded-planned}
use Rattle.plain_table.proofs.threads.plan.Goals as goal

pub returns : goal.returns
returns c =
    let named = c.in_ok-name.ensures in (
      named.0,
      threaded-planned c.args.view.now c.args.caller.now c.in_ok-name.field-0.path.items c.in_ok-name.field-0.cursors.items c.thread_of-thread.result c.number_or_zero.result c.root_number.result
          named.1 named.2 (c.thread_of-thread.ensures c.args.view.now named.3) c.number_or_zero.ensures c.root_number.ensures,
    )
