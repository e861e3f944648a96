use Rattle.std.proofs.Common.{rules}
use Rattle.plain_table.proofs.edit.MovesCursorsEditSpace.edit.Goals as goal

pub returns-in-Some : goal.returns-in-Some
returns-in-Some c = search rules
