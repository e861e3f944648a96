use Rattle.index_array.proofs.IndexArray.set_mark.Goals as goal

pub returns-clause-writes : goal.returns-clause-writes
returns-clause-writes c = c.put_mark.ensures.writes
