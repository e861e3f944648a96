use Rattle.std.proofs.Common.{rules}
use Rattle.pid_workers.proofs.script_table.ScriptTable.new.Goals as goal

pub returns : goal.returns
returns c = search rules
