use Rattle.std.proofs.Common.{rules}
use Rattle.wait_calls.proofs.selected.Goals as goal

pub returns-in-OwnGroup : goal.returns-in-OwnGroup
returns-in-OwnGroup c = search rules
