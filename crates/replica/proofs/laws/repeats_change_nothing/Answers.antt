use Rattle.replica.proofs.Same.{repeats}
use Rattle.replica.proofs.laws.repeats_change_nothing.Goals as goal

pub returns : goal.returns
returns c = repeats
