use Rattle.model_laws.proofs.Threadless.{does_as_before, counts_as_before, stays_threadless}
use Rattle.model_laws.proofs.before.threadless_as_before.Goals as goal

pub returns : goal.returns
returns c = record { does = does_as_before; counts = counts_as_before; stays = stays_threadless }
