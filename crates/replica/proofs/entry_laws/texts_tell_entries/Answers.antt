use Rattle.replica.proofs.Whole.{texts_tell}
use Rattle.replica.proofs.entry_laws.texts_tell_entries.Goals as goal

pub returns : goal.returns
returns c = texts_tell
