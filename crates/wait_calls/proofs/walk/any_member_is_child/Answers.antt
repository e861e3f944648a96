use Rattle.std.proofs.Common.{◌≡◌, None, option_map, sym, ap, ◌∙◌, arith}
use Rattle.std.proofs.lemmas.Grind.{common_steps}
use Rattle.std.proofs.Math.ListN.{get_or-map}
use Rattle.member_lists.specs.Owners.{times}
use Rattle.groups_sessions.specs.Membership.{Membership}
use Rattle.wait_calls.proofs.Chosen.{differ}
use Rattle.wait_calls.proofs.walk.any_member_is_child.Goals as goal

pub returns-clause-none : goal.returns-clause-none
returns-clause-none c off k (child, member) =
    let s = c.args.store.now in
    let once = rw c.members.ensures at c.group_members-member-items.ensures.once in
    let one = once k (get_or-map (option_map (λ (t : Membership). t.group)) s.members k None ∙ member) in
    let none : times k c.loop-member.member-iterator ≡ 0 = ap (times k) c.in-None.ensures.steps.0 in
    let all = ap (times k) c.into_iter-member-iterator.ensures.into_iter_gives in
    differ (times k c.group_members-member-items.result) one (sym all ∙ sym (c.loop-member.invariant.left k child) ∙ none)

pub returns-then-eq-clause-some : goal.returns-then-eq-clause-some
returns-then-eq-clause-some c = grind (arith, common_steps)

pub loop-member-preserved : goal.loop-member-preserved
loop-member-preserved c = grind arith
