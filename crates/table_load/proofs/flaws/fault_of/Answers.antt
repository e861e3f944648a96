use Rattle.std.proofs.Common.{rules}
use Rattle.table_load.proofs.flaws.fault_of.Goals as goal

pub returns-in-NoMemory-clause-memory : goal.returns-in-NoMemory-clause-memory
returns-in-NoMemory-clause-memory c = search rules
