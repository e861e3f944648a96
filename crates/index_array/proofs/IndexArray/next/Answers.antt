use Rattle.index_array.proofs.IndexArray.next.Goals as goal

pub returns : goal.returns
returns c = c.first.ensures
