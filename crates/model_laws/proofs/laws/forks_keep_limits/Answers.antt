use Rattle.model_laws.proofs.Limits.{fork_keeps_limits, thread_keeps_limits, run_within}
use Rattle.model_laws.proofs.laws.forks_keep_limits.Goals as goal

pub returns : goal.returns
returns c = record { call = fork_keeps_limits; thread = thread_keeps_limits; run = run_within }
