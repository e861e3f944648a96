use Rattle.std.proofs.Common.{refl, arith}
use Rattle.std.proofs.lemmas.Grind.{common_steps}
use Rattle.table_build.proofs.ControlTrees.{root-first}
use Rattle.task_table.proofs.Results.{if_err}
use Rattle.table_build.proofs.controls.put_controls.Goals as goal

pub loop-index-init : goal.loop-index-init
loop-index-init c =
    let e = c.in_ok-check_root.ensures in
    let first = root-first c.args.saved.now.controls.items c.args.store.now.charges.controls e.some e.root c.requires.root in
    record { below = first.1; put = first.0; rest = refl; some = omega arith }

pub returns-clause-put : goal.returns-clause-put
returns-clause-put c = grind (arith, common_steps)

pub loop-index-preserved : goal.loop-index-preserved
loop-index-preserved c = grind arith

pub returns-in_err-check_root-clause-refused : goal.returns-in_err-check_root-clause-refused
returns-in_err-check_root-clause-refused c = if_err c.from_residual.result _ c.in_err-check_root.field-0.0 c.from_residual.ensures.1 c.in_err-check_root.ensures.refused

pub returns-in_err-put_next-clause-refused : goal.returns-in_err-put_next-clause-refused
returns-in_err-put_next-clause-refused c = if_err c.from_residual-in_err-put_next.result _ c.in_err-put_next.field-0.0 c.from_residual-in_err-put_next.ensures.1 c.in_err-put_next.ensures.refused
