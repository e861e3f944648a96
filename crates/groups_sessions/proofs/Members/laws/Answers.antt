use Rattle.std.proofs.lemmas.List.{length-map}
use Rattle.groups_sessions.proofs.Views as view
use Rattle.groups_sessions.proofs.Told.{owner-told}
use Rattle.groups_sessions.proofs.Members.laws.Goals as goal

pub returns-clause-together : goal.returns-clause-together
returns-clause-together c =
    rw (← c.self.view_is) (λ k m is. view.in_session c.self.inside.groups c.self.inside.sessions m.group m.session (view.told c.self.inside.groups c.self.inside.sessions k m is).1)

pub returns-clause-room : goal.returns-clause-room
returns-clause-room c =
    rw (← c.self.view_is) (λ k m is. rw length-map (c.self.invariant.inside k m.group (view.told c.self.inside.groups c.self.inside.sessions k m is).0))

pub returns-clause-session_room : goal.returns-clause-session_room
returns-clause-session_room c =
    rw (← c.self.view_is)
    (λ k m is. rw length-map (c.self.invariant.session_room m.group m.session (owner-told c.self.inside.groups c.self.inside.sessions c.self.invariant k m is)))
