use Rattle.std.proofs.Common.{◌∙◌}
use Rattle.groups_sessions.proofs.Views.{entered, in_room, same_view}
use Rattle.groups_sessions.proofs.Kept.{IsForgotten, IsKept-moved, session-stays}
use Rattle.groups_sessions.proofs.Members.move_to.Goals as goal

forgotten : (c : goal.After-forget_if_empty)
    → IsForgotten c.move_to.new.self c.put_session.new.sessions c.forget_if_empty.new.sessions c.member_owner-old.result
forgotten c = record {
  joined = c.forget_if_empty.ensures.joined;
  stays = c.forget_if_empty.ensures.stays;
  others = c.forget_if_empty.ensures.others;
  room = c.forget_if_empty.ensures.room;
}

pub invariant_of-self : goal.invariant_of-self
invariant_of-self c =
    let room = in_room c.self.inside.groups c.self.inside.sessions c.args.self.now c.self.view_is in
    IsKept-moved c.self.inside.groups c.self.inside.sessions c.self.invariant c.args.task c.member_owner-old.result c.member_owner-old.ensures
    c.args.group c.args.session (room c.args.group c.requires.group) (room c.args.session c.requires.session)
    c.move_to.new.self c.put_session.new.sessions c.forget_if_empty.new.sessions c.move_to.ensures c.put_session.ensures (forgotten c)

pub returns : goal.returns
returns c =
    same_view c.move_to.new.self c.put_session.new.sessions c.forget_if_empty.new.sessions
    (session-stays c.move_to.new.self c.put_session.new.sessions c.forget_if_empty.new.sessions c.member_owner-old.result (forgotten c))
    ∙ rw (c.move_to.ensures, c.put_session.ensures)
    (entered c.self.inside.groups c.self.inside.sessions c.args.self.now c.self.view_is c.self.invariant
    c.args.task c.args.group c.args.session c.requires.group c.requires.together)
