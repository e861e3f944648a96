use Rattle.std.proofs.Common.{rules, length}
use Rattle.std.proofs.lemmas.List.{get_or_default}
use Rattle.member_lists.specs.Links.{lone}
use Rattle.member_lists.proofs.members.MembersIterator.next.Goals as goal
use Rattle.member_lists.proofs.Walks as walks

pub invariant_of-self : goal.invariant_of-self
invariant_of-self c =
    let s = walks.step c.self.inside.links.now c.self.inside.at (length c.self.inside.links.now) c.self.invariant c.if-key.false in
    rw (get_or_default c.self.inside.links.now c.self.inside.at (record { owner = 0; next = 0; prev = 0 }) lone s.inside) s.ends

pub returns-clause-steps : goal.returns-clause-steps
returns-clause-steps c =
    let s = walks.step c.self.inside.links.now c.self.inside.at (length c.self.inside.links.now) c.self.invariant c.if-key.false in
    rw (get_or_default c.self.inside.links.now c.self.inside.at (record { owner = 0; next = 0; prev = 0 }) lone s.inside, ← c.self.view_is) s.rest

pub returns-clause-goes : goal.returns-clause-goes
returns-clause-goes c =
    let s = walks.step c.self.inside.links.now c.self.inside.at (length c.self.inside.links.now) c.self.invariant c.if-key.false in
    rw (get_or_default c.self.inside.links.now c.self.inside.at (record { owner = 0; next = 0; prev = 0 }) lone s.inside, ← c.self.view_is, s.rest) (search rules)
