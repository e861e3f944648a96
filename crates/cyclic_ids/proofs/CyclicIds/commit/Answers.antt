use Rattle.std.proofs.Common.{rules}
use Rattle.cyclic_ids.proofs.CyclicIds.commit.Goals as goal

pub returns-clause-writes : goal.returns-clause-writes
returns-clause-writes c = search rules
