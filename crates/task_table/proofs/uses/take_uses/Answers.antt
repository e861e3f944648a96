use Rattle.task_table.proofs.Less as less
use Rattle.task_table.proofs.uses.take_uses.Goals as goal

pub returns-clause-less : goal.returns-clause-less
returns-clause-less c = less.IsLess-trans c.args.numbers.now c.laws.ensures.full c.laws.ensures.own c.take_use.new.numbers c.take_use-2.new.numbers c.take_use.ensures.less c.take_use-2.ensures.less
