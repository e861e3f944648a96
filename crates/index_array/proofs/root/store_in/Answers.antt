use Rattle.index_array.proofs.root.store_in.Goals as goal

pub returns-clause-writes : goal.returns-clause-writes
returns-clause-writes g c = c.put.ensures.writes
