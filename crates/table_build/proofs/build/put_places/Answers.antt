use Rattle.std.proofs.Common.{◌∙◌, refl, sym, ap, option_map, arith}
use Rattle.table_build.specs.declared.fault.BuildFault.TheVariants.{NoMemory}
use Rattle.task_table.proofs.Results.{if_err}
use Rattle.task_tree.specs.Tree.{task_at}
use Rattle.task_table.specs.Store.{Store}
use Rattle.task_table.specs.View.{row_of}
use Rattle.table_build.proofs.Steps.{ungrouped-charges, ungrouped-new}
use Rattle.table_build.proofs.Places.{none_some}
use Rattle.table_build.proofs.build.put_places.Goals as goal

pub returns-in_err-store-clause-refused : goal.returns-in_err-store-clause-refused
returns-in_err-store-clause-refused c = if_err c.from_residual.result _ NoMemory c.from_residual.ensures.1 (λ not. absurd (not refl))

pub put_spaces-requires-clause-root : goal.put_spaces-requires-clause-root
put_spaces-requires-clause-root c = grind arith

pub put_controls-requires : goal.put_controls-requires
put_controls-requires c = grind arith

pub returns-in_err-put_controls-clause-refused : goal.returns-in_err-put_controls-clause-refused
returns-in_err-put_controls-clause-refused c =
    if_err c.from_residual-in_err-put_controls.result _ c.in_err-put_controls.field-0.0 c.from_residual-in_err-put_controls.ensures.1 (λ not tables.
    c.in_err-put_controls.ensures.refused not (record { tree = tables.sound.coherent.controls; limits = tables.sound.coherent.limits }))

pub returns-in_err-put_spaces-clause-refused : goal.returns-in_err-put_spaces-clause-refused
returns-in_err-put_spaces-clause-refused c =
    if_err c.from_residual-in_err-put_spaces.result _ c.in_err-put_spaces.field-0.0 c.from_residual-in_err-put_spaces.ensures.1 (λ not tables.
    c.in_err-put_spaces.ensures.refused not (record { tree = tables.sound.coherent.spaces; root = tables.sound.coherent.root }))

pub put_spaces-requires-clause-ungrouped : goal.put_spaces-requires-clause-ungrouped
put_spaces-requires-clause-ungrouped c =
    let s = c.in_ok-store.ensures in
    ungrouped-charges c.in_ok-store.store c.put_controls.new.store c.in_ok-put_controls.ensures.rest
    (ungrouped-new c.in_ok-store.store c.laws.ensures s.tasks s.members s.names s.root s.others s.threads)

pub returns-clause-nobody : goal.returns-clause-nobody
returns-clause-nobody c = record {
  ungrouped = c.in_ok-put_spaces.ensures.rest.ungrouped;
  nobody = λ k.
      ap (option_map (row_of c.put_spaces.new.store k))
      (ap (λ (s : Store). task_at s.tree k) c.in_ok-put_spaces.ensures.rest.spaces.rest ∙ ap (λ (s : Store). task_at s.tree k) c.in_ok-put_controls.ensures.rest ∙ c.in_ok-store.ensures.tasks k);
}

pub returns-clause-controls : goal.returns-clause-controls
returns-clause-controls c = ap (λ (s : Store). s.charges.controls) c.in_ok-put_spaces.ensures.rest.spaces.rest ∙ c.in_ok-put_controls.ensures.put

pub returns-clause-bound : goal.returns-clause-bound
returns-clause-bound c = grind arith

pub returns-clause-spaces : goal.returns-clause-spaces
returns-clause-spaces c = c.in_ok-put_spaces.ensures.put

pub returns-clause-kin : goal.returns-clause-kin
returns-clause-kin c = λ k p e. absurd (none_some (sym (c.in_ok-put_spaces.ensures.rest.ungrouped.orphans k) ∙ e))
