use Rattle.index_array.proofs.Roots.{none_above}
use Rattle.index_array.proofs.IndexArray.laws.Goals as goal

pub returns : goal.returns
returns c = rw (← c.self.view_is) (none_above c.self.inside.root c.self.invariant)
