use Rattle.std.proofs.Common.{get_or}
use Rattle.std.proofs.lemmas.List.{get_or_default}
use Rattle.member_lists.specs.declared.Link.{Link}
use Rattle.member_lists.specs.Links.{lone, link_at}
use Rattle.member_lists.proofs.Telling as telling
use Rattle.member_lists.proofs.tell_owner.Goals as goal

-- what is read at a place that no link stands at
abbrev zero : Link
zero = record { owner = 0; next = 0; prev = 0 }

pub loop-at-init : goal.loop-at-init
loop-at-init c =
    rw c.as_mut_slice-all.ensures.value (telling.begins c.args.links.now.items (link_at c.args.links.now.items c.args.first).owner c.args.owner c.args.first c.requires.some c.requires.ends c.requires.members)

pub loop-at-smaller : goal.loop-at-smaller
loop-at-smaller c =
    let ls = c.args.links.now.items in
    let from = (link_at ls c.args.first).owner in
    let lt = telling.at_within ls c.loop-at.all from c.args.owner c.args.first c.loop-at.at c.loop-at.last c.loop-at.invariant c.loop-at-test.true in
    telling.fewer_read ls c.loop-at.all from c.args.owner c.args.first c.loop-at.at c.loop-at.last c.loop-at.invariant c.loop-at-test.true
    (get_or c.loop-at.all c.loop-at.at zero) (get_or_default c.loop-at.all c.loop-at.at zero lone lt)

pub loop-at-preserved : goal.loop-at-preserved
loop-at-preserved c =
    let ls = c.args.links.now.items in
    let from = (link_at ls c.args.first).owner in
    let lt = telling.at_within ls c.loop-at.all from c.args.owner c.args.first c.loop-at.at c.loop-at.last c.loop-at.invariant c.loop-at-test.true in
    telling.turn ls c.loop-at.all from c.args.owner c.args.first c.loop-at.at c.loop-at.last c.loop-at.invariant c.loop-at-test.true
    (get_or c.loop-at.all c.loop-at.at zero) (get_or_default c.loop-at.all c.loop-at.at zero lone lt)
