use Rattle.std.proofs.Common.{rules}
use Rattle.pid_types.specs.Names.{task_numbered}
use Rattle.pid_types.specs.Threads.{process_numbered}
use Rattle.translate.proofs.space.init_of.Goals as goal

pub returns : goal.returns
unfolding task_numbered process_numbered
returns c = search rules
