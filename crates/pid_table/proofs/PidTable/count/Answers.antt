use Rattle.std.proofs.Common.{◌∙◌, sym, ap}
use Rattle.pid_types.specs.State.{State}
use Rattle.pid_types.specs.Controls.{count as count_of}
use Rattle.pids_charge.specs.Charges.{Charges, charged_count, home_id}
use Rattle.task_table.proofs.Counts.{count-is}
use Rattle.pid_table.proofs.PidTable.count.Goals as goal

pub returns-clause-value : goal.returns-clause-value
returns-clause-value c =
    let s = c.self.inside.store in
    c.count.ensures
    ∙ ap (λ (w : Charges). charged_count w (home_id w c.in-Some.key)) (c.controls-2.ensures ∙ sym c.controls.ensures) ∙ ap (charged_count c.controls.result.now) c.in-Some.ensures.id
    ∙ ap (λ (w : Charges). charged_count w c.args.control) c.controls.ensures
    ∙ count-is s c.laws.ensures c.self.invariant.alone c.args.control ∙ ap (λ (t : State). count_of t c.args.control) c.self.view_is
