use Rattle.std.proofs.Common.{◌≡◌, ◌∙◌, Some, None, is_some, refl, sym, ap, subst, arith}
use Rattle.task_table.proofs.Changes.{in_range}
use Rattle.sound_store.specs.Ways.{Reaches}
use Rattle.sound_store.proofs.chains.check_way.Goals as goal

pub returns-in_default-clause-ok : goal.returns-in_default-clause-ok
returns-in_default-clause-ok c = λ t e. absurd (let z : None ≡ Some t = sym (c.in_default.ensures.none refl) ∙ e in cc)

pub leads_up-requires-clause-key : goal.leads_up-requires-clause-key
leads_up-requires-clause-key c =
    let inside = in_range c.args.store.now.tree.tasks c.in-Some.found.key (ap is_some c.in-Some.ensures.task.there) in
    let room = c.requires.room in
    omega (arith, inside, room)

pub returns-then-not-leads_up-clause-told : goal.returns-then-not-leads_up-clause-told
returns-then-not-leads_up-clause-told c = record {
  key = c.in-Some.found.key;
  task = c.in-Some.found.task;
  there = c.in-Some.ensures.task.there;
  number = c.in-Some.ensures.number;
  lost = c.if-not-leads_up.ensures.no refl;
}

pub mark_way-requires-clause-key : goal.mark_way-requires-clause-key
mark_way-requires-clause-key c =
    let inside = in_range c.args.store.now.tree.tasks c.in-Some.found.key (ap is_some c.in-Some.ensures.task.there) in
    let room = c.requires.room in
    omega (arith, inside, room)

pub mark_way-requires-clause-reach : goal.mark_way-requires-clause-reach
mark_way-requires-clause-reach c = c.if-not-leads_up.ensures.yes refl

pub returns-clause-ok : goal.returns-clause-ok
returns-clause-ok c = λ t e. subst (Reaches c.args.store.now) c.in-Some.ensures.key (c.if-not-leads_up.ensures.yes refl)
