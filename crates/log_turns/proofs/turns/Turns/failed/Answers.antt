-- Each is proved at once, and so it is refused at once where a wrong body breaks it.
use Rattle.std.proofs.Common.{rules}
use Rattle.log_turns.proofs.turns.Turns.failed.Goals as goal

pub returns-in-Sync : goal.returns-in-Sync
returns-in-Sync c = search rules

pub returns-in-Begin : goal.returns-in-Begin
returns-in-Begin c = search rules

pub returns-in-Write : goal.returns-in-Write
returns-in-Write c = search rules
