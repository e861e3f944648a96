-- The test by key is that of a removal
use Rattle.std.proofs.Common.{◌∙◌, is_some, sym, ap}
use Rattle.pid_types.specs.Controls.{control_at}
use Rattle.pid_types.specs.Outcome.{Outcome}
use Rattle.pids_charge.specs.Charges.{Charges, stands, remove_refusal, home_id}
use Rattle.set_calls.proofs.Answered.{not-removed, removed}
use Rattle.set_calls.proofs.controls.would_remove_control.Goals as goal

pub returns-in-Err : goal.returns-in-Err
returns-in-Err c =
    let old = c.args.store.now in
    let key = c.in-Some.key in
    let there = ap (λ (v : Charges). is_some (control_at v.controls c.args.id)) (sym c.controls.ensures) ∙ c.in-Some.ensures.there in
    let standing = ap (λ (v : Charges). stands v key) (sym c.controls.ensures) ∙ c.in-Some.ensures.stands in
    let is = ap (λ (v : Charges). home_id v key) (sym c.controls.ensures) ∙ c.in-Some.ensures.id in
    let why = ap (λ (v : Charges). remove_refusal v key) (sym c.controls-2.ensures) ∙ sym c.in-Err.ensures in
    sym (ap (λ (o : Outcome). o.reply) (not-removed old c.laws.ensures key c.args.id standing is there c.requires.alone c.in-Err.refusal why))

pub returns-in-Ok : goal.returns-in-Ok
returns-in-Ok c =
    let old = c.args.store.now in
    let key = c.in-Some.key in
    let there = ap (λ (v : Charges). is_some (control_at v.controls c.args.id)) (sym c.controls.ensures) ∙ c.in-Some.ensures.there in
    let standing = ap (λ (v : Charges). stands v key) (sym c.controls.ensures) ∙ c.in-Some.ensures.stands in
    let is = ap (λ (v : Charges). home_id v key) (sym c.controls.ensures) ∙ c.in-Some.ensures.id in
    let none = ap (λ (v : Charges). remove_refusal v key) (sym c.controls-2.ensures) ∙ sym c.in-Ok.ensures in
    sym (ap (λ (o : Outcome). o.reply) (removed old c.laws.ensures key c.args.id standing is there c.requires.alone none).2)
