use Rattle.std.proofs.Common.{◌≡◌, ◌∙◌, Ok, Err, is_some, sym, ap, ◌<◌, rules}
use Rattle.pid_types.specs.Controls.{control_at}
use Rattle.pid_types.specs.Outcome.{Outcome}
use Rattle.pid_types.specs.Changes.{make_control}
use Rattle.pids_charge.specs.Charges.{Charges, stands, home_id}
use Rattle.task_table.specs.Store.{Store}
use Rattle.set_calls.proofs.Answered.{all-of, is-made, after-making}
use Rattle.set_calls.proofs.controls.make_control.Goals as goal

pub make_control-requires-clause-above : goal.make_control-requires-clause-above
make_control-requires-clause-above c = all-of (λ g. g.id < c.args.stamp) c.args.store.now.charges.controls c.requires.below.controls

-- a call that went well was not refused
ok_err : {A E : Type 0} {a : A} {e : E} → Ok a ≡ Err e → ⊥
ok_err same = cc

pub returns-in-Ok-clause-state : goal.returns-in-Ok-clause-state
returns-in-Ok-clause-state c =
    let old = c.args.store.now in
    let new = c.make_control.new.self in
    let above = c.in-Some.above in
    let there = ap (λ (v : Charges). is_some (control_at v.controls c.args.parent)) (sym c.controls.ensures) ∙ c.in-Some.ensures.there in
    let standing = ap (λ (v : Charges). stands v c.in-Some.above) (sym c.controls.ensures) ∙ c.in-Some.ensures.stands in
    let is = ap (λ (v : Charges). home_id v c.in-Some.above) (sym c.controls.ensures) ∙ c.in-Some.ensures.id in
    sym (ap (λ (o : Outcome). o.state) (is-made old c.laws.ensures above c.args.parent standing is there c.args.stamp
    (λ deep. ok_err (c.in-Ok.ensures.deep.1 deep)))
    ∙ after-making old c.laws.ensures above c.args.parent standing is there c.requires.whole.alone new c.laws-in-Ok.ensures c.make_control.ensures.rest c.args.stamp c.in-Ok.field-0 c.in-Ok.ensures.controls c.in-Ok.ensures.fresh c.in-Ok.ensures.others)

pub returns-in-Err-ControlDepth-clause-reply : goal.returns-in-Err-ControlDepth-clause-reply
unfolding make_control
returns-in-Err-ControlDepth-clause-reply c = search rules

pub returns-in-Ok-clause-threads : goal.returns-in-Ok-clause-threads
returns-in-Ok-clause-threads c = ap (λ (s : Store). s.threads) c.make_control.ensures.rest
