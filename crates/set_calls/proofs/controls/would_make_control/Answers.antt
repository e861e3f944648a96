-- The depth is that of a control group that is made
use Rattle.std.proofs.Common.{nat_lt, length, true, false, ◌∙◌, is_some, sym, ap}
use Rattle.pid_types.specs.Controls.{control_at, control_path}
use Rattle.pid_types.specs.Outcome.{Outcome}
use Rattle.pids_charge.specs.Charges.{Charges, stands, home_id}
use Rattle.pid_types.specs.Bounds.{deepest_control}
use Rattle.set_calls.proofs.Answered.{made-by}
use Rattle.set_calls.proofs.controls.would_make_control.Goals as goal

pub returns-then-is_deepest : goal.returns-then-is_deepest
returns-then-is_deepest c =
    let old = c.args.store.now in
    let there = ap (λ (v : Charges). is_some (control_at v.controls c.args.parent)) (sym c.controls.ensures) ∙ c.in-Some.ensures.there in
    let standing = ap (λ (v : Charges). stands v c.in-Some.above) (sym c.controls.ensures) ∙ c.in-Some.ensures.stands in
    let is = ap (λ (v : Charges). home_id v c.in-Some.above) (sym c.controls.ensures) ∙ c.in-Some.ensures.id in
    let deep = ap (λ (v : Charges). nat_lt deepest_control (length (control_path v.controls (home_id v c.in-Some.above)))) (sym c.controls-2.ensures) ∙ sym c.is_deepest.ensures ∙ c.if-is_deepest.true in
    sym (ap (λ (o : Outcome). o.reply) (made-by old c.laws.ensures c.in-Some.above c.args.parent standing is there c.args.stamp true deep))

pub returns : goal.returns
returns c =
    let old = c.args.store.now in
    let there = ap (λ (v : Charges). is_some (control_at v.controls c.args.parent)) (sym c.controls.ensures) ∙ c.in-Some.ensures.there in
    let standing = ap (λ (v : Charges). stands v c.in-Some.above) (sym c.controls.ensures) ∙ c.in-Some.ensures.stands in
    let is = ap (λ (v : Charges). home_id v c.in-Some.above) (sym c.controls.ensures) ∙ c.in-Some.ensures.id in
    let deep = ap (λ (v : Charges). nat_lt deepest_control (length (control_path v.controls (home_id v c.in-Some.above)))) (sym c.controls-2.ensures) ∙ sym c.is_deepest.ensures ∙ c.if-is_deepest.false in
    sym (ap (λ (o : Outcome). o.reply) (made-by old c.laws.ensures c.in-Some.above c.args.parent standing is there c.args.stamp false deep))
