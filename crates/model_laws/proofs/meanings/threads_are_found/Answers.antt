use Rattle.model_laws.proofs.ThreadMeanings.{one_caller, one_is_named, last_leaving_ends}
use Rattle.model_laws.proofs.meanings.threads_are_found.Goals as goal

pub returns : goal.returns
returns c = record { caller = one_caller; named = one_is_named; last = last_leaving_ends }
