use Rattle.std.proofs.Common.{◌∙◌, sym, ap, subst, ◌++◌}
use Rattle.pid_types.specs.declared.call.Kind.TheVariants as kinds
use Rattle.translate.specs.Gathered.{numbers_of_keys, AreGathered}
use Rattle.translate.proofs.Pages.{gathered_group, nobody, in_room}
use Rattle.translate.proofs.page.group_members.Goals as goal

pub group_members-found-requires : goal.group_members-found-requires
group_members-found-requires c = in_room c.members-members.result.now c.laws-2.ensures.room c.args.group (c.any_in_group.ensures.0 c.if-not-any_in_group.false)

pub returns : goal.returns
returns c =
    let s = c.args.store.now in
    subst (AreGathered s c.args.space kinds.Group c.args.group c.args.from)
    (sym (c.in_ok-gather.ensures ∙ ap (λ ns. ns ++ numbers_of_keys s.numbering c.args.space c.args.from c.group_members-found.result) c.new-numbers.ensures.items))
    (gathered_group s c.laws.ensures c.args.space c.args.from c.args.group c.group_members-found.result (rw c.members-members.ensures at c.group_members-found.ensures))

pub returns-then-not-any_in_group : goal.returns-then-not-any_in_group
returns-then-not-any_in_group c =
    let s = c.args.store.now in
    let any = rw c.members-members.ensures at c.any_in_group.ensures in
    subst (AreGathered s c.args.space kinds.Group c.args.group c.args.from) (sym c.new-numbers.ensures.items)
    (nobody s c.laws.ensures c.args.space c.args.from kinds.Group c.args.group
    (λ k mine. (let z = any.1 (k, mine) in let w = c.if-not-any_in_group.true in absurd (cc))))
