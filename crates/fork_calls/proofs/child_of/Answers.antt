use Rattle.std.proofs.Common.{rules}
use Rattle.fork_calls.proofs.child_of.Goals as goal

pub returns : goal.returns
returns c = search rules
