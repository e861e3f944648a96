use Rattle.std.proofs.Common.{refl}
use Rattle.kept_past.proofs.Lists.{listed-more}
use Rattle.kept_past.proofs.ring.Ring.push_short.Goals as goal

pub invariant_of-self : goal.invariant_of-self
invariant_of-self c = (listed-more _ _ _ _ _ c.self.invariant.0 c.push_back_reserved.ensures.items tt refl, c.self.invariant.1)
