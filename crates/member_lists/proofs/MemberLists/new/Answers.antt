use Rattle.member_lists.proofs.Linked as linked
use Rattle.member_lists.proofs.MemberLists.new.Goals as goal

pub invariant_of-result : goal.invariant_of-result
invariant_of-result c = rw (c.new.ensures.items, c.new-2.ensures.items) linked.IsLinked-none
