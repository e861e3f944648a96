use Rattle.std.proofs.Common.{◌≡◌, ◌-◌, Some, ap, sym, subst, ◌∙◌, arith, slice_get}
use Rattle.std.proofs.lemmas.Grind.{common_steps, elements}
use Rattle.table_build.specs.Follows.{MayStandBehind}
use Rattle.task_table.proofs.Results.{if_err-map}
use Rattle.table_build.proofs.LineSteps.{get-is}
use Rattle.table_build.proofs.SpaceTrees.{stands-at}
use Rattle.table_build.proofs.spaces.put_next.Goals as goal

pub returns-clause-refused : goal.returns-clause-refused
returns-clause-refused c =
    let items = c.args.saved.now.spaces.items in
    let lt = c.requires.index.1 in
    let here : slice_get items c.args.index ≡ Some c.index-2.result.now = get-is items c.args.index c.index-2.result.now lt ∙ ap Some (sym c.index-2.ensures) in
    let last : slice_get items (c.args.index - 1) ≡ Some c.index.result.now = get-is items (c.args.index - 1) c.index.result.now (omega (arith, lt)) ∙ ap Some (sym c.index.ensures) in
    if_err-map c.put_space.result _ _ (λ fault refuses memory good.
    refuses memory (subst (λ l. MayStandBehind l c.index.result.now.id c.index-2.result.now) (sym c.requires.put) (stands-at items c.args.index c.index-2.result.now c.index.result.now here last c.requires.index.0 good)))
    c.put_space.ensures.refused

pub returns-clause-put : goal.returns-clause-put
returns-clause-put c = grind (arith, common_steps)

pub put_space-requires-clause-below : goal.put_space-requires-clause-below
put_space-requires-clause-below c = grind (arith, elements)

pub returns-clause-below : goal.returns-clause-below
returns-clause-below c = grind (arith, elements)
