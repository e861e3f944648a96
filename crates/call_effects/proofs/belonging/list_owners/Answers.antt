use Rattle.std.proofs.Common.{◌∙◌, ◌++◌, ◌∷◌, [], map, ap, subst, sym, arith}
use Rattle.std.proofs.lemmas.Grind.{common_steps}
use Rattle.std.proofs.lemmas.List.{take_all, map_more}
use Rattle.translate.specs.Pages.{AreListedFrom}
use Rattle.call_effects.specs.Belonging.{owner_by}
use Rattle.call_effects.proofs.Lists.{distinct}
use Rattle.call_effects.proofs.belonging.list_owners.Goals as goal

pub returns-clause-listed : goal.returns-clause-listed
returns-clause-listed c =
    let all = c.loop-watched.invariant.owners ∙ ap (map (owner_by c.args.kind)) (take_all c.loop-watched.watched-index c.args.tasks.now c.loop-watched-test.false) in
    subst (λ ns. AreListedFrom ns 0 c.sort_distinct.new.numbers.items) all (distinct c.loop-watched.owners.items c.sort_distinct.new.numbers.items c.sort_distinct.ensures.sorts)

pub loop-watched-preserved : goal.loop-watched-preserved
loop-watched-preserved c = record {
  owners = c.in_ok-push.ensures.items ∙ (λ i. c.loop-watched.invariant.owners i ++ c.owner_of.ensures i ∷ [])
      ∙ sym (map_more (owner_by c.args.kind) c.args.tasks.now c.loop-watched.watched-index _ c.loop-watched-test.true);
}

pub returns-clause-few : goal.returns-clause-few
returns-clause-few c = grind (arith, common_steps)
