use Rattle.replica.proofs.Heads.{heads_tell}
use Rattle.replica.proofs.snapshot_laws.heads_tell_logs.Goals as goal

pub returns : goal.returns
returns c = heads_tell
