use Rattle.std.proofs.Common.{rules}
use Rattle.index_array.proofs.root.raised.Goals as goal

pub returns-in-Ok-clause-ok : goal.returns-in-Ok-clause-ok
returns-in-Ok-clause-ok g c = search rules
