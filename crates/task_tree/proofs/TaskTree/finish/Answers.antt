use Rattle.std.proofs.Common.{Some, None, slice_set, refl, sym, subst, ◌∙◌}
use Rattle.std.proofs.lemmas.List.{length-set, get_or-set_same, get_or-set_other}
use Rattle.pid_types.specs.declared.plain.Life.TheVariants.{Zombie}
use Rattle.task_tree.specs.Tree.{IsTaskTree}
use Rattle.task_tree.proofs.Changes as changes
use Rattle.task_tree.proofs.TaskTree.finish.Goals as goal

pub enter_ended-requires-clause-apart : goal.enter_ended-requires-clause-apart
enter_ended-requires-clause-apart c = λ k p e. let h = rw (← c.self.view_is) at c.requires.apart in h k p e

pub invariant_of-self : goal.invariant_of-self
invariant_of-self c = subst (λ tasks. IsTaskTree tasks c.self.inside.children c.enter_ended.new.ended) (sym c.set.ensures) (
    let there = rw (← c.self.view_is) at c.requires.there in
    let keys = changes.task_in_range c.self.inside.tasks c.args.key c.args.task there in
    let task = record c.args.task { life = Zombie c.args.end } in
    let here = get_or-set_same c.self.inside.tasks c.args.key (Some task) None keys in
    changes.IsTree-changed c.self.inside.tasks c.self.inside.children c.self.inside.ended c.self.invariant
    (slice_set c.self.inside.tasks c.args.key (Some task)) c.self.inside.children c.enter_ended.new.ended c.args.key
    (length-set c.self.inside.tasks c.args.key (Some task)) refl c.enter_ended.ensures.keys
    (λ k differs. get_or-set_other c.self.inside.tasks c.args.key k (Some task) None differs) (λ k differs. refl) c.enter_ended.ensures.others
    (λ p e. e)
    (λ e. absurd (let z = sym here ∙ e in cc))
    (changes.waits-ended c.args.key c.args.rank task c.self.inside.children c.enter_ended.new.ended (slice_set c.self.inside.tasks c.args.key (Some task)) here refl c.enter_ended.ensures.here)
    (changes.apart-ended c.args.key c.args.rank c.self.inside.children c.self.inside.ended c.enter_ended.new.ended c.enter_ended.ensures.here (λ k p e. let h = rw (← c.self.view_is) at c.requires.apart in h k p e)))
