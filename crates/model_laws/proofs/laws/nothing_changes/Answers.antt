use Rattle.model_laws.proofs.Refusals.{refusal_changes_nothing, query_changes_nothing, none_yet_changes_nothing}
use Rattle.model_laws.proofs.laws.nothing_changes.Goals as goal

pub returns : goal.returns
returns c = record { refusal = refusal_changes_nothing; query = query_changes_nothing; none_yet = none_yet_changes_nothing }
