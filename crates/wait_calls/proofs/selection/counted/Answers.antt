use Rattle.std.proofs.Common.{rules}
use Rattle.wait_calls.proofs.selection.counted.Goals as goal

pub returns-in-Ended : goal.returns-in-Ended
returns-in-Ended c = search rules

pub returns-in_default-choice-2 : goal.returns-in_default-choice-2
returns-in_default-choice-2 c = search rules
