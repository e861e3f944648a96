use Rattle.std.proofs.Common.{None, option_map, slice_set, sym, subst, ap, ◌∙◌}
use Rattle.std.proofs.lemmas.List.{length-set, get_or-set_same, get_or-set_other}
use Rattle.member_lists.specs.Owners.{owner_of}
use Rattle.task_tree.specs.Tree.{IsTaskTree, waits_for}
use Rattle.task_tree.proofs.Changes as changes
use Rattle.task_tree.proofs.TaskTree.remove.Goals as goal

pub invariant_of-self : goal.invariant_of-self
invariant_of-self c = subst (λ tasks. IsTaskTree tasks c.leave_parent.new.children c.forget_ended.new.ended) (sym c.set.ensures) (
    let there = rw (← c.self.view_is) at c.requires in
    let here = get_or-set_same c.self.inside.tasks c.args.key None None (changes.some_in_range c.self.inside.tasks c.args.key there) in
    changes.IsTree-changed c.self.inside.tasks c.self.inside.children c.self.inside.ended c.self.invariant
    (slice_set c.self.inside.tasks c.args.key None) c.leave_parent.new.children c.forget_ended.new.ended c.args.key
    (length-set c.self.inside.tasks c.args.key None) c.leave_parent.ensures.keys c.forget_ended.ensures.keys
    (λ k differs. get_or-set_other c.self.inside.tasks c.args.key k None None differs) c.leave_parent.ensures.others c.forget_ended.ensures.others
    (λ p e. absurd (let z = sym c.leave_parent.ensures.here ∙ e in cc))
    (λ e. c.leave_parent.ensures.here)
    (ap (option_map changes.of_parent) c.forget_ended.ensures.here ∙ sym (ap (λ o. waits_for o (owner_of c.leave_parent.new.children c.args.key)) here))
    (λ k p r e differs. absurd (let z = sym c.forget_ended.ensures.here ∙ e in cc)))
