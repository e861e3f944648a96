use Rattle.std.proofs.Common.{◌≢◌, ◌<◌, length, ◌∙◌, arith, map}
use Rattle.std.proofs.lemmas.List.{length-map}
use Rattle.member_lists.specs.Links.{nil, owner_in}
use Rattle.member_lists.proofs.Linked as linked
use Rattle.member_lists.proofs.Joining as joining
use Rattle.member_lists.proofs.MemberLists.move_all.Goals as goal

pub returns-else-index-clause-owners : goal.returns-else-index-clause-owners
returns-else-index-clause-owners c =
    let keys : c.args.from < length (map owner_in c.self.inside.links.items) = rw (← c.self.view_is) at c.requires.from in
    let below : c.args.from < length c.self.inside.links.items = simp length-map at keys in
    let room : c.args.from < length c.self.inside.heads.items = rw c.self.invariant.rooms below in
    let some : c.args.from ≢ nil = omega (arith, below, c.self.invariant.few) in
    let none = linked.head_is c.self.inside.heads.items c.args.from c.index.result.now room c.index.ensures ∙ c.if-index.false in
    rw (← c.self.view_is) (joining.none_handed c.self.inside.links.items c.args.from c.args.to (λ k mine. linked.no_members _ _ c.self.invariant c.args.from none k mine some))
