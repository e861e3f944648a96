use Rattle.member_queues.proofs.Telling as telling
use Rattle.member_queues.proofs.MemberQueues.laws.Goals as goal

pub returns : goal.returns
returns c = rw (← c.self.view_is) (telling.owner_within c.self.inside.forest.roots.items c.self.inside.forest.nodes.items c.self.invariant)
