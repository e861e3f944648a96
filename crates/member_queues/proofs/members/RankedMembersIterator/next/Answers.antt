use Rattle.std.proofs.Common.{rules, length}
use Rattle.member_queues.proofs.members.RankedMembersIterator.next.Goals as goal
use Rattle.member_queues.proofs.Walks as walks

pub invariant_of-self : goal.invariant_of-self
invariant_of-self c =
    let s = walks.step c.self.inside.nodes.now c.self.inside.run c.self.inside.at (length c.self.inside.nodes.now) c.self.invariant c.if-key.false in
    rw (c.after.ensures.run, c.after.ensures.key) s.ends

pub returns-clause-steps : goal.returns-clause-steps
returns-clause-steps c =
    let s = walks.step c.self.inside.nodes.now c.self.inside.run c.self.inside.at (length c.self.inside.nodes.now) c.self.invariant c.if-key.false in
    rw (c.after.ensures.run, c.after.ensures.key, ← c.self.view_is) s.rest

pub returns-clause-goes : goal.returns-clause-goes
returns-clause-goes c =
    let s = walks.step c.self.inside.nodes.now c.self.inside.run c.self.inside.at (length c.self.inside.nodes.now) c.self.invariant c.if-key.false in
    rw (c.after.ensures.run, c.after.ensures.key, ← c.self.view_is, s.rest) (search rules)
