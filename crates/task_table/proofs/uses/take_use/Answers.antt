use Rattle.task_table.proofs.UseCounts as uses
use Rattle.task_table.proofs.Threaded as threads
use Rattle.task_table.proofs.uses.take_use.Goals as goal

pub returns-clause-uses : goal.returns-clause-uses
returns-clause-uses c = uses.uses-taken c.args.numbers.now c.drop_use.new.self c.args.ident c.args.kind c.drop_use.ensures.others c.requires c.drop_use.ensures.here

pub returns-clause-threads : goal.returns-clause-threads
returns-clause-threads c = threads.taken c.args.numbers.now c.drop_use.new.self c.args.ident c.args.kind c.drop_use.ensures.others c.requires c.drop_use.ensures.here
