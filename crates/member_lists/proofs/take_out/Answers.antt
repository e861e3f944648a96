use Rattle.std.proofs.Common.{refl, sym, ap, ◌∙◌}
use Rattle.member_lists.specs.Links.{lone}
use Rattle.member_lists.proofs.Linked as linked
use Rattle.member_lists.proofs.take_out.Goals as goal

pub returns-clause-linked : goal.returns-clause-linked
returns-clause-linked c =
    let key = linked.within c.args.links.now.items c.args.key c.requires.owned in
    let is = linked.link_is _ _ _ key c.index.ensures in
    linked.IsLinked-removed _ _ _ _ _ c.requires.linked
    (linked.Removed-set _ _ c.args.links.now.items c.set_prev.new.links.items c.set_behind.new.links.items c.args.key c.index.result.now c.requires.linked key
    is (λ z. c.requires.owned (sym (ap (λ x. x.owner) is) ∙ z)) c.set_prev.ensures.here c.set_prev.ensures.others c.set_prev.ensures.len
    c.set_behind.ensures.head c.set_behind.ensures.head_kept c.set_behind.ensures.heads c.set_behind.ensures.here c.set_behind.ensures.others c.set_behind.ensures.len c.set_behind.ensures.rooms
    lone refl)
