use Rattle.groups_sessions.proofs.Views as view
use Rattle.groups_sessions.proofs.Members.group_members.Goals as goal

pub returns : goal.returns
returns c = rw (← c.self.view_is, view.groups_of-is c.self.inside.groups c.self.inside.sessions) c.members.ensures
