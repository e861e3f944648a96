use Rattle.std.proofs.Common.{sym, ◌∙◌}
use Rattle.foreign_calls.proofs.Told.{tells_found, tells_none}
use Rattle.foreign_calls.proofs.replicas.tell_digest.Goals as goal

pub returns-in_default-clause-told : goal.returns-in_default-clause-told
returns-in_default-clause-told c = tells_none _ _ (sym c.digest_at.ensures ∙ c.in_default.is)

pub returns-clause-told : goal.returns-clause-told
returns-clause-told c = tells_found _ _ _ (sym c.digest_at.ensures ∙ c.in-Some.is)
