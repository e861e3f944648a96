use Rattle.table_text.proofs.Snapshots.{words_of_state}
use Rattle.table_text.proofs.laws.what_fits_is_of_words.Goals as goal

pub returns : goal.returns
returns c = words_of_state
