use Rattle.std.proofs.Common.{rules}
use Rattle.cyclic_ids.proofs.make_room.Goals as goal

pub returns-in-Err-clause-ok : goal.returns-in-Err-clause-ok
returns-in-Err-clause-ok c = search rules
