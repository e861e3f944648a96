use Rattle.index_array.proofs.Changes.{empty_or_not}
use Rattle.index_array.proofs.root.is_empty_in.Goals as goal

pub returns : goal.returns
returns g c = empty_or_not _ c.has_any.result c.has_any.ensures
