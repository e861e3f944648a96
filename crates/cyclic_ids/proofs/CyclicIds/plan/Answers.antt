use Rattle.cyclic_ids.proofs.Draws.{upper_drawn, lower_drawn}
use Rattle.cyclic_ids.proofs.CyclicIds.plan.Goals as goal

pub returns-in-Some-clause-draw : goal.returns-in-Some-clause-draw
returns-in-Some-clause-draw c =
    let gap = rw (c.max.ensures, c.restart-low.ensures, ← c.self.view_is, c.in-Some.is) at c.first_gap.ensures in
    rw (← c.self.view_is) (upper_drawn _ c.self.inside.pid_max c.self.inside.cursor c.in-Some.n gap)

pub returns-in-None-clause-draw : goal.returns-in-None-clause-draw
returns-in-None-clause-draw c =
    let none = rw (c.max.ensures, c.restart-low.ensures, ← c.self.view_is, c.in-None.is) at c.first_gap.ensures in
    let gap = rw (c.restart-low.ensures, ← c.self.view_is) at c.first_gap-in-None.ensures in
    rw (← c.self.view_is) (lower_drawn _ c.self.inside.pid_max c.self.inside.cursor c.first_gap-in-None.result none gap)
