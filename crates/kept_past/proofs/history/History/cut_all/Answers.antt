use Rattle.kept_past.proofs.Past.{cut-all}
use Rattle.kept_past.proofs.history.History.cut_all.Goals as goal

pub returns-clause-ok : goal.returns-clause-ok
returns-clause-ok c =
    cut-all c.self.inside.held c.self.inside.ring.entries c.self.inside.lag c.self.inside.stamp c.len-all.result _ c.args.table.now _ c.catch_up.new.self c.self.invariant c.self.view_is
    c.len-all.ensures
    c.requires.begun
    c.requires.ends
    c.catch_up.ensures.same
