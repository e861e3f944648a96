use Rattle.std.proofs.Common.{◌≡◌, subst, sym, ap, ◌∙◌, arith}
use Rattle.std.proofs.lemmas.Grind.{common_steps}
use Rattle.wait_calls.specs.declared.selection.Choice.TheVariants.{NoChild}
use Rattle.wait_calls.specs.Choice.{IsEndedChoice}
use Rattle.wait_calls.specs.Walk.{walked}
use Rattle.wait_calls.proofs.Chosen.{chosen-ended}
use Rattle.wait_calls.proofs.walk.choose_ended.Goals as goal

pub ended_children-child-items-requires : goal.ended_children-child-items-requires
ended_children-child-items-requires c = grind (arith, common_steps)

pub returns : goal.returns
returns c =
    let s = c.args.store.now in
    let all = c.ended_children-child-items.result in
    let is : c.loop-child.choice ≡ walked s c.args.caller c.args.group NoChild all =
    ap (walked s c.args.caller c.args.group c.loop-child.choice) (sym c.in-None.ensures.steps.0) ∙ c.loop-child.invariant.walk
    ∙ ap (walked s c.args.caller c.args.group NoChild) c.into_iter-child-iterator.ensures.into_iter_gives in
    let ended = rw c.tree-tree.ensures at c.ended_children-child-items.ensures in
    subst (IsEndedChoice s c.args.caller c.args.group) (sym is)
    (chosen-ended s c.args.caller c.args.group (rw c.tree-tree.ensures at c.laws.ensures.waiting) all ended.once ended.owned)
