use Rattle.groups_sessions.proofs.Views.{grown}
use Rattle.groups_sessions.proofs.Members.reserve.Goals as goal

pub returns-clause-kept : goal.returns-clause-kept
returns-clause-kept c = rw (← c.self.view_is) (grown _ _ _ _ c.grow.ensures.groups c.grow.ensures.sessions)
