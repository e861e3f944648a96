use Rattle.replica.proofs.Once.{each_once}
use Rattle.replica.proofs.laws.each_is_made_once.Goals as goal

pub returns : goal.returns
returns c = each_once
