use Rattle.groups_sessions.proofs.Told.{groups_told}
use Rattle.groups_sessions.proofs.Members.session_groups.Goals as goal

pub returns : goal.returns
returns c = rw (← c.self.view_is) (groups_told c.self.inside.groups c.self.inside.sessions c.self.invariant c.args.ident c.members.result c.members.ensures)
