use Rattle.std.proofs.Common.{refl, ◌∙◌}
use Rattle.member_lists.proofs.MemberLists.move_to.Goals as goal

pub returns : goal.returns
returns c = c.put_first.ensures.owners ∙ rw (c.take_out.ensures.owners, c.self.view_is) refl
