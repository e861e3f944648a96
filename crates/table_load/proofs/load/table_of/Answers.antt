use Rattle.std.proofs.Common.{◌∙◌, ap, sym, subst}
use Rattle.pid_types.specs.Sound.{IsBelow, IsSound}
use Rattle.task_table.proofs.Results.{if_err, is_true, never}
use Rattle.table_load.specs.Faults.{of_build}
use Rattle.table_load.proofs.Refused.{no-form}
use Rattle.table_load.proofs.load.table_of.Goals as goal

pub returns-then-not-is_below-clause-refused : goal.returns-then-not-is_below-clause-refused
returns-then-not-is_below-clause-refused c = λ not tables below. never (c.if-not-is_below.ensures.1 below)

pub returns-in_err-store-clause-form : goal.returns-in_err-store-clause-form
returns-in_err-store-clause-form c = if_err c.from_residual.result _ (of_build c.in_err-store.field-0.0) c.from_residual.ensures.1 (no-form c.in_err-store.field-0.0)

pub returns-in_err-store-clause-refused : goal.returns-in_err-store-clause-refused
returns-in_err-store-clause-refused c =
    if_err c.from_residual.result _ (of_build c.in_err-store.field-0.0) c.from_residual.ensures.1 (λ not tables below.
    c.in_err-store.ensures.refused (λ e. not (ap of_build e)) tables)

pub returns-in_err-check_store-clause-form : goal.returns-in_err-check_store-clause-form
returns-in_err-check_store-clause-form c =
    if_err c.from_residual-in_err-check_store.result _ c.in_err-check_store.field-0.0 c.from_residual-in_err-check_store.ensures.1 c.in_err-check_store.ensures.form

pub returns-in_err-check_store-clause-refused : goal.returns-in_err-check_store-clause-refused
returns-in_err-check_store-clause-refused c =
    if_err c.from_residual-in_err-check_store.result _ c.in_err-check_store.field-0.0 c.from_residual-in_err-check_store.ensures.1 (λ not tables below.
    c.in_err-check_store.ensures.refused not (record { sound = subst IsSound (sym c.in_ok-store.ensures.state) tables.sound; parents = c.in_ok-store.ensures.kin; alone = c.in_ok-store.ensures.alone }))

pub returns-clause-state : goal.returns-clause-state
returns-clause-state c = c.of-table.ensures ∙ c.in_ok-store.ensures.state

pub returns-clause-sound : goal.returns-clause-sound
returns-clause-sound c =
    (c.laws.ensures, subst (IsBelow c.args.saved.now.stamp) (sym (c.of-table.ensures ∙ c.in_ok-store.ensures.state)) (c.if-not-is_below.ensures.0 is_true))
