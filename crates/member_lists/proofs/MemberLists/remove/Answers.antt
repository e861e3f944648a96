use Rattle.std.proofs.Common.{◌<◌, length, refl, ◌∙◌, map}
use Rattle.std.proofs.lemmas.List.{length-map, map-set}
use Rattle.member_lists.specs.Links.{owner_in}
use Rattle.member_lists.proofs.Linked as linked
use Rattle.member_lists.proofs.MemberLists.remove.Goals as goal

pub invariant_of-self : goal.invariant_of-self
invariant_of-self c =
    let keys : c.args.key < length (map owner_in c.self.inside.links.items) = rw (← c.self.view_is) at c.requires.key in
    let key : c.args.key < length c.self.inside.links.items = simp length-map at keys in
    linked.IsLinked-unset _ c.take_out.new.links.items c.args.key _ (linked.kept_key _ _ c.args.key c.take_out.ensures.owners key) c.take_out.ensures.linked refl

pub returns : goal.returns
returns c = map-set owner_in c.take_out.new.links.items c.args.key _ ∙ rw (c.take_out.ensures.owners, c.self.view_is) refl
