use Rattle.model_laws.proofs.Reaping.{wait_reaps_least, none_yet_has_ended}
use Rattle.model_laws.proofs.meanings.wait_reaps_least.Goals as goal

pub returns : goal.returns
returns c = record { reaps = wait_reaps_least; none_yet = none_yet_has_ended }
