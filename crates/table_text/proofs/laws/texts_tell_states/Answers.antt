use Rattle.table_text.proofs.Told.{text_told}
use Rattle.table_text.proofs.laws.texts_tell_states.Goals as goal

pub returns : goal.returns
returns c = text_told
