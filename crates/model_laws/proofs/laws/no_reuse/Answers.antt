use Rattle.model_laws.proofs.Reuse.{no_reuse}
use Rattle.model_laws.proofs.laws.no_reuse.Goals as goal

pub returns : goal.returns
returns c = no_reuse
