use Rattle.foreign_calls.proofs.Places.{entry_places}
use Rattle.foreign_calls.proofs.laws.kept_entries_can_be_written.Goals as goal

pub returns : goal.returns
returns c = λ chronicle ordinal n told fits worker. entry_places chronicle ordinal n told fits worker
