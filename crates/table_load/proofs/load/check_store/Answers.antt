use Rattle.std.proofs.Common.{rules}
use Rattle.table_load.proofs.load.check_store.Goals as goal

pub returns-in-Err-clause-sound : goal.returns-in-Err-clause-sound
returns-in-Err-clause-sound c = search rules
