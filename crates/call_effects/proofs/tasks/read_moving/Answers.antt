use Rattle.std.proofs.Common.{rules}
use Rattle.call_effects.proofs.tasks.read_moving.Goals as goal

pub returns-in-Some-2 : goal.returns-in-Some-2
returns-in-Some-2 c = search rules
