use Rattle.model_laws.proofs.Reuse.{thread_reuses_no_number}
use Rattle.model_laws.proofs.laws.threads_reuse_no_number.Goals as goal

pub returns : goal.returns
returns c = thread_reuses_no_number
