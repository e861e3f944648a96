use Rattle.std.proofs.Common.{◌∙◌, refl, sym, ap, length}
use Rattle.pids_charge.specs.Charges.{Charges, charged_count, home_id}
use Rattle.pid_types.specs.State.{State}
use Rattle.task_table.specs.View.{state_of}
use Rattle.task_table.proofs.Counts.{count-is}
use Rattle.pid_table.proofs.Counted.{all-counted}
use Rattle.pid_table.proofs.PidTable.tasks.Goals as goal

pub returns : goal.returns
returns c =
    let s = c.self.inside.store in
    c.count.ensures
    ∙ ap (λ (w : Charges). charged_count w (home_id w c.in-Some.root)) (c.controls-2.ensures ∙ sym c.controls.ensures) ∙ ap (charged_count c.controls.result.now) c.in-Some.ensures.id
    ∙ ap (λ (w : Charges). charged_count w 0) c.controls.ensures
    ∙ count-is s c.laws.ensures c.self.invariant.alone 0 ∙ all-counted (state_of s) c.self.invariant.sound refl ∙ ap (λ (t : State). length t.rows) c.self.view_is
