use Rattle.replica.proofs.Same.{one_replica}
use Rattle.replica.proofs.laws.one_log_is_one_replica.Goals as goal

pub returns : goal.returns
returns c = one_replica
