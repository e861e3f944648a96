use Rattle.foreign_calls.proofs.table_texts.of_loaded.Goals as goal

pub returns : goal.returns
returns c = c.of.ensures
