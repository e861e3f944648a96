use Rattle.std.proofs.Common.{◌∙◌, ap}
use Rattle.pid_types.specs.Controls.{parent_control}
use Rattle.pids_charge.specs.Charges.{Charges, control_limit, charged_count, home_id}
use Rattle.task_table.proofs.Counts.{count-is}
use Rattle.translate.proofs.shown.control_row.Goals as goal

pub returns : goal.returns
returns c =
    let v = c.args.store.now.charges in
    let limit = c.limit.ensures ∙ ap (λ (w : Charges). control_limit w (home_id w c.args.key)) c.controls.ensures ∙ ap (control_limit v) c.requires.id in
    let counted = c.count.ensures ∙ ap (λ (w : Charges). charged_count w (home_id w c.args.key)) c.controls-2.ensures ∙ ap (charged_count v) c.requires.id ∙ count-is c.args.store.now c.laws.ensures c.requires.whole.alone c.args.id in
    λ i. record { id = c.args.id; parent = (c.outer_control.ensures ∙ ap (parent_control v.controls) c.requires.id) i; limit = limit i; count = counted i }
