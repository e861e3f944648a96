use Rattle.std.proofs.Common.{◌∙◌, is_some, sym, ap}
use Rattle.pid_types.specs.Controls.{control_at}
use Rattle.pid_types.specs.Outcome.{Outcome}
use Rattle.pids_charge.specs.Charges.{Charges, stands, home_id}
use Rattle.task_table.specs.Store.{Store}
use Rattle.set_calls.proofs.Answered.{is-limited, after-limit}
use Rattle.set_calls.proofs.controls.set_limit.Goals as goal

pub returns-in-Ok-clause-state : goal.returns-in-Ok-clause-state
returns-in-Ok-clause-state c =
    let old = c.args.store.now in
    let new = c.set_limit.new.self in
    let key = c.in-Some.key in
    let there = ap (λ (v : Charges). is_some (control_at v.controls c.args.id)) (sym c.controls.ensures) ∙ c.in-Some.ensures.there in
    let standing = ap (λ (v : Charges). stands v c.in-Some.key) (sym c.controls.ensures) ∙ c.in-Some.ensures.stands in
    let is = ap (λ (v : Charges). home_id v c.in-Some.key) (sym c.controls.ensures) ∙ c.in-Some.ensures.id in
    sym (ap (λ (o : Outcome). o.state) (is-limited old c.laws.ensures key c.args.id standing is there c.args.limit (sym c.in-Ok.ensures.refusal))
    ∙ after-limit old c.laws.ensures key c.args.id standing is there c.requires.alone new c.laws-in-Ok.ensures c.set_limit.ensures.rest c.args.limit c.in-Ok.ensures.controls c.set_limit.ensures.homes)

pub returns-in-Ok-clause-threads : goal.returns-in-Ok-clause-threads
returns-in-Ok-clause-threads c = ap (λ (s : Store). s.threads) c.set_limit.ensures.rest
