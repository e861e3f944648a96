-- The test by key is that of a limit that is set
use Rattle.std.proofs.Common.{◌∙◌, is_some, sym, ap}
use Rattle.pid_types.specs.Controls.{control_at}
use Rattle.pid_types.specs.Outcome.{Outcome}
use Rattle.pids_charge.specs.Charges.{Charges, stands, limit_refusal, home_id}
use Rattle.set_calls.proofs.Answered.{not-limited, is-limited}
use Rattle.set_calls.proofs.controls.would_set_limit.Goals as goal

pub returns-in-Err : goal.returns-in-Err
returns-in-Err c =
    let old = c.args.store.now in
    let there = ap (λ (v : Charges). is_some (control_at v.controls c.args.id)) (sym c.controls.ensures) ∙ c.in-Some.ensures.there in
    let standing = ap (λ (v : Charges). stands v c.in-Some.key) (sym c.controls.ensures) ∙ c.in-Some.ensures.stands in
    let is = ap (λ (v : Charges). home_id v c.in-Some.key) (sym c.controls.ensures) ∙ c.in-Some.ensures.id in
    let why = ap (λ (v : Charges). limit_refusal v c.in-Some.key c.args.limit) (sym c.controls-2.ensures) ∙ sym c.in-Err.ensures in
    sym (ap (λ (o : Outcome). o.reply) (not-limited old c.laws.ensures c.in-Some.key c.args.id standing is there c.args.limit c.in-Err.refusal why))

pub returns-in-Ok : goal.returns-in-Ok
returns-in-Ok c =
    let old = c.args.store.now in
    let there = ap (λ (v : Charges). is_some (control_at v.controls c.args.id)) (sym c.controls.ensures) ∙ c.in-Some.ensures.there in
    let standing = ap (λ (v : Charges). stands v c.in-Some.key) (sym c.controls.ensures) ∙ c.in-Some.ensures.stands in
    let is = ap (λ (v : Charges). home_id v c.in-Some.key) (sym c.controls.ensures) ∙ c.in-Some.ensures.id in
    let none = ap (λ (v : Charges). limit_refusal v c.in-Some.key c.args.limit) (sym c.controls-2.ensures) ∙ sym c.in-Ok.ensures in
    sym (ap (λ (o : Outcome). o.reply) (is-limited old c.laws.ensures c.in-Some.key c.args.id standing is there c.args.limit none))
