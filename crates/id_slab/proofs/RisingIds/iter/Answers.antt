use Rattle.id_slab.proofs.Lives as lives
use Rattle.id_slab.proofs.RisingIds.iter.Goals as goal

pub returns-clause-rising : goal.returns-clause-rising
returns-clause-rising c = rw (← c.self.view_is) (lives.AreRising-live c.self.inside.entries.items c.self.invariant.0)
