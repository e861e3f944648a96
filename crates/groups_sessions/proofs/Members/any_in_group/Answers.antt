use Rattle.std.proofs.Common.{sym, ◌∙◌}
use Rattle.groups_sessions.proofs.Views.{group_of-is, true_unless}
use Rattle.groups_sessions.proofs.Members.any_in_group.Goals as goal

pub returns : goal.returns
returns c =
    rw (← c.self.view_is) (
      λ yes. let some = c.has_member.ensures.some yes in (some.0, group_of-is c.self.inside.groups c.self.inside.sessions some.0 ∙ some.1),
      λ some. true_unless c.has_member.result (λ no. c.has_member.ensures.none no some.0 (sym (group_of-is c.self.inside.groups c.self.inside.sessions some.0) ∙ some.1)),
    )
