use Rattle.std.proofs.Common.{◌≡◌, None, option_map, subst, sym, ap, ◌∙◌, arith}
use Rattle.std.proofs.Math.ListN.{get_or-map}
use Rattle.groups_sessions.specs.Membership.{Membership}
use Rattle.wait_calls.specs.declared.selection.Choice.TheVariants.{NoChild}
use Rattle.wait_calls.specs.declared.selection.Selected.TheVariants.{Group}
use Rattle.wait_calls.specs.Choice.{IsChoice}
use Rattle.wait_calls.specs.Walk.{walked}
use Rattle.wait_calls.proofs.Chosen.{chosen-all}
use Rattle.wait_calls.proofs.walk.choose_member.Goals as goal

pub returns : goal.returns
returns c =
    let s = c.args.store.now in
    let all = c.group_members-member-items.result in
    let is : c.loop-member.choice ≡ walked s c.args.caller c.args.group NoChild all =
    ap (walked s c.args.caller c.args.group c.loop-member.choice) (sym c.in-None.ensures.steps.0) ∙ c.loop-member.invariant.walk
    ∙ ap (walked s c.args.caller c.args.group NoChild) c.into_iter-member-iterator.ensures.into_iter_gives in
    let once = rw c.members.ensures at c.group_members-member-items.ensures.once in
    subst (IsChoice s c.args.caller (Group c.args.group)) (sym is)
    (chosen-all s c.args.caller c.args.group (rw c.tree.ensures at c.laws.ensures.waiting) all
    (λ k match. let one = once k (get_or-map (option_map (λ (t : Membership). t.group)) s.members k None ∙ match.1) in omega (arith, one)))
