use Rattle.groups_sessions.proofs.Views.{entered, in_room, unowned}
use Rattle.groups_sessions.proofs.Kept.{IsKept-entered}
use Rattle.groups_sessions.proofs.Members.enter.Goals as goal

pub invariant_of-self : goal.invariant_of-self
invariant_of-self c =
    let room = in_room c.self.inside.groups c.self.inside.sessions c.args.self.now c.self.view_is in
    rw (c.add.ensures, c.put_session.ensures)
    (IsKept-entered c.self.inside.groups c.self.inside.sessions c.self.invariant c.args.task (room c.args.task c.requires.task)
    (unowned c.self.inside.groups c.self.inside.sessions c.args.self.now c.self.view_is c.args.task c.requires.free)
    c.args.group c.args.session (room c.args.group c.requires.group) (room c.args.session c.requires.session))

pub returns : goal.returns
returns c =
    rw (c.add.ensures, c.put_session.ensures)
    (entered c.self.inside.groups c.self.inside.sessions c.args.self.now c.self.view_is c.self.invariant
    c.args.task c.args.group c.args.session c.requires.group (λ k _. c.requires.together k))
