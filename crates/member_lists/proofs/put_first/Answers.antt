use Rattle.std.proofs.Common.{arith}
use Rattle.std.proofs.lemmas.List.{map-set, length-set}
use Rattle.member_lists.specs.Links.{lone}
use Rattle.member_lists.proofs.Linked as linked
use Rattle.member_lists.proofs.put_first.Goals as goal

pub set_prev-requires : goal.set_prev-requires
set_prev-requires c some =
    let lt = linked.head_within _ _ c.requires.linked c.args.owner _ (linked.head_is _ _ _ c.requires.owner c.index-first.ensures) some in
    omega (arith, lt, length-set c.args.links.now.items c.args.key lone)

pub returns-clause-linked : goal.returns-clause-linked
returns-clause-linked c =
    linked.IsLinked-added _ _ _ _ _ _ _ c.requires.linked
    (linked.Added-set c.args.heads.now.items c.args.links.now.items c.set_prev.new.links.items c.args.key c.args.owner _ c.requires.linked c.requires.owner c.requires.key
    (linked.head_is _ _ _ c.requires.owner c.index-first.ensures) c.set_prev.ensures.here c.set_prev.ensures.others c.set_prev.ensures.len)

pub returns-clause-owners : goal.returns-clause-owners
returns-clause-owners c = grind (arith, linked.link_some, length-set, map-set)
