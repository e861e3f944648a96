use Rattle.std.proofs.Common.{◌≡◌, ◌-◌, Some, ap, sym, subst, ◌∙◌, arith, slice_get}
use Rattle.std.proofs.lemmas.Grind.{common_steps, elements}
use Rattle.table_build.specs.Follows.{MayFollow}
use Rattle.table_build.proofs.LineSteps.{get-is}
use Rattle.task_table.proofs.Results.{if_err-map, on_ok-map}
use Rattle.table_build.proofs.ControlTrees.{follows-at, last-in}
use Rattle.table_build.proofs.controls.put_next.Goals as goal

pub returns-clause-put : goal.returns-clause-put
returns-clause-put c = grind (arith, common_steps)

pub returns-clause-below : goal.returns-clause-below
returns-clause-below c =
    let items = c.args.saved.now.controls.items in
    let here : slice_get items c.args.index ≡ Some c.index-2.result.now = get-is items c.args.index c.index-2.result.now c.requires.index.1 ∙ ap Some (sym c.index-2.ensures) in
    on_ok-map c.put_control.result _ _ (λ below. last-in items c.args.index c.index-2.result.now _ here below) c.put_control.ensures.below

pub returns-clause-refused : goal.returns-clause-refused
returns-clause-refused c =
    let items = c.args.saved.now.controls.items in
    let lt = c.requires.index.1 in
    let here : slice_get items c.args.index ≡ Some c.index-2.result.now = get-is items c.args.index c.index-2.result.now lt ∙ ap Some (sym c.index-2.ensures) in
    let last : slice_get items (c.args.index - 1) ≡ Some c.index.result.now = get-is items (c.args.index - 1) c.index.result.now (omega (arith, lt)) ∙ ap Some (sym c.index.ensures) in
    if_err-map c.put_control.result _ _ (λ fault refuses memory good.
    refuses memory (subst (λ l. MayFollow l c.index.result.now.id c.index-2.result.now) (sym c.requires.put) (follows-at items c.args.index c.index-2.result.now c.index.result.now here last c.requires.index.0 good)))
    c.put_control.ensures.refused

pub put_control-requires : goal.put_control-requires
put_control-requires c = grind (arith, elements)
