use Rattle.index_array.proofs.Changes.{empty_or_not}
use Rattle.index_array.proofs.leaf.Leaf.is_empty.Goals as goal

pub returns : goal.returns
returns c = empty_or_not _ c.has_any.result c.has_any.ensures
