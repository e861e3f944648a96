use Rattle.std.proofs.Common.{ap, subst, ◌∙◌, ◌+◌, ◌++◌, sym, ℕ, ◌<◌, length, List}
use Rattle.member_lists.specs.Owners.{times}
use Rattle.std.specs.List.{AllByRecursion}
use Rattle.translate.specs.Gathered.{group_times}
use Rattle.translate.proofs.Groups.{group_added}
use Rattle.translate.proofs.page.gather_groups.Goals as goal

pub loop-group-preserved : goal.loop-group-preserved
loop-group-preserved c =
    let s = c.args.store.now in
    let held = c.loop-group.invariant.added in
    let step = c.in-Some.ensures.steps in
    let rooms : List ℕ → Type 0 = λ gs. AllByRecursion (λ g. g < length s.members) gs in
    let added = group_added s c.args.space c.args.from c.in-Some.group c.into_iter-group-iterator.result c.next.new.self c.group_members-members.result held.0
    c.args.numbers.now.items c.loop-group.numbers.items c.gather.new.numbers.items (rw c.members.ensures at c.group_members-members.ensures)
    held.1 (λ k. sym (ap (λ gs. times k held.0 + group_times s gs k) step) ∙ held.2 k) c.in_ok-gather.ensures in
    record {
      rooms = (subst rooms step c.loop-group.invariant.rooms).1;
      added = (held.0 ++ c.group_members-members.result, added.0, added.1);
    }
