use Rattle.table_text.proofs.Told.{state_in-shown}
use Rattle.table_text.proofs.laws.snapshots_have_their_state.Goals as goal

pub returns : goal.returns
returns c = state_in-shown
