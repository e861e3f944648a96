use Rattle.kept_past.proofs.Past.{cut-first}
use Rattle.kept_past.proofs.history.History.cut_first.Goals as goal

pub returns-clause-cut : goal.returns-clause-cut
returns-clause-cut c =
    cut-first c.self.inside.held c.self.inside.ring.entries c.self.inside.lag c.self.inside.stamp _ _ _ c.catch_up.new.self c.self.invariant c.self.view_is
    c.worker_at-worker.ensures
    c.catch_up.ensures.same
