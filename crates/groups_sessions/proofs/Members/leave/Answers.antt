use Rattle.std.proofs.Common.{None, option_map, ◌∙◌}
use Rattle.std.proofs.lemmas.List.{map-set}
use Rattle.groups_sessions.specs.Membership.{membership_in}
use Rattle.groups_sessions.proofs.Views.{same_view}
use Rattle.groups_sessions.proofs.Kept.{IsForgotten, IsKept-left, session-stays}
use Rattle.groups_sessions.proofs.Members.leave.Goals as goal

forgotten : (c : goal.After-forget_if_empty) → IsForgotten c.remove.new.self c.self.inside.sessions c.forget_if_empty.new.sessions c.member_owner-old.result
forgotten c = record {
  joined = c.forget_if_empty.ensures.joined;
  stays = c.forget_if_empty.ensures.stays;
  others = c.forget_if_empty.ensures.others;
  room = c.forget_if_empty.ensures.room;
}

pub invariant_of-self : goal.invariant_of-self
invariant_of-self c =
    IsKept-left c.self.inside.groups c.self.inside.sessions c.self.invariant c.args.task c.member_owner-old.result c.member_owner-old.ensures
    c.remove.new.self c.forget_if_empty.new.sessions c.remove.ensures (forgotten c)

pub returns : goal.returns
returns c =
    same_view c.remove.new.self c.self.inside.sessions c.forget_if_empty.new.sessions
    (session-stays c.remove.new.self c.self.inside.sessions c.forget_if_empty.new.sessions c.member_owner-old.result (forgotten c))
    ∙ rw (c.remove.ensures, ← c.self.view_is) (map-set (option_map (membership_in c.self.inside.sessions)) c.self.inside.groups c.args.task None)
