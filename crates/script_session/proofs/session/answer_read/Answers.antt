use Rattle.std.proofs.Common.{rules}
use Rattle.script_session.proofs.session.answer_read.Goals as goal

pub returns-then-is_empty-clause-told : goal.returns-then-is_empty-clause-told
returns-then-is_empty-clause-told g c = search rules
