use Rattle.std.proofs.Common.{ℕ}
use Rattle.pid_types.specs.Membership.{IsIn}
use Rattle.sound_store.specs.Groups.{HasGoodControls, IsGoodControl, ids_of}
use Rattle.sound_store.proofs.Groups.{good-from}
use Rattle.task_table.proofs.Results.{is_true, if_err, on_ok-map}
use Rattle.sound_store.specs.Flaws.{IsControlFlaw}
use Rattle.sound_store.proofs.controls.check_controls.Goals as goal

pub returns-clause-ok : goal.returns-clause-ok
returns-clause-ok c =
    let v = c.args.controls.now in
    on_ok-map c.check_each.result ((id : ℕ) → IsIn id (ids_of v) → IsGoodControl v id) (HasGoodControls v)
    (λ each. good-from v c.in_ok-check_order.ensures.ok (c.if-not-has_root.ensures.0 is_true) each) c.check_each.ensures.ok

pub returns-in_err-check_order-clause-told : goal.returns-in_err-check_order-clause-told
returns-in_err-check_order-clause-told c = if_err c.from_residual.result (IsControlFlaw c.args.controls.now) c.in_err-check_order.field-0.0 c.from_residual.ensures.1 c.in_err-check_order.ensures.told
