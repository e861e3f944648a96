use Rattle.std.proofs.Common.{refl}
use Rattle.plain_table.proofs.Drawn.{forked-planned}
use Rattle.plain_table.proofs.fork.plan.Goals as goal

pub returns : goal.returns
returns c =
    let named = c.in_ok-name.ensures in (
      refl,
      named.0,
      forked-planned c.args.view.now c.args.caller.now c.args.space c.in_ok-name.field-0.path.items c.in_ok-name.field-0.cursors.items c.child_of-child.result c.number_or_zero.result c.root_number.result
          named.1 named.2 (c.child_of-child.ensures c.args.view.now named.3) c.number_or_zero.ensures c.root_number.ensures,
    )
