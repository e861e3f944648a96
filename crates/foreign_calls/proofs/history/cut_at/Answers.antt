use Rattle.std.proofs.Common.{rules}
use Rattle.foreign_calls.proofs.history.cut_at.Goals as goal

pub returns-clause-seen : goal.returns-clause-seen
returns-clause-seen c = search rules

pub returns-clause-again : goal.returns-clause-again
returns-clause-again c = search rules
