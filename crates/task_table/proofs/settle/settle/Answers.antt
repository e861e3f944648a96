use Rattle.task_table.proofs.Births as births
use Rattle.task_table.proofs.settle.settle.Goals as goal

pub add_uses-requires-clause-group : goal.add_uses-requires-clause-group
add_uses-requires-clause-group c =
    (births.joined-named c.args.numbers.now c.args.members.now c.args.from c.args.key c.lineage-group.result.0 c.lineage-group.result.1 c.lineage-group.ensures c.requires.own c.requires.named).0

pub add_uses-requires-clause-session : goal.add_uses-requires-clause-session
add_uses-requires-clause-session c =
    (births.joined-named c.args.numbers.now c.args.members.now c.args.from c.args.key c.lineage-group.result.0 c.lineage-group.result.1 c.lineage-group.ensures c.requires.own c.requires.named).1
