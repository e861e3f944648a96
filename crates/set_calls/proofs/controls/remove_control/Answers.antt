-- Whether a group is empty is read by key and told by id in the model: each refusal, and what is left, must be the same in both
use Rattle.std.proofs.Common.{◌≡◌, ◌∙◌, is_some, sym, ap}
use Rattle.pid_types.specs.Controls.{control_at, parent_control}
use Rattle.pid_types.specs.Outcome.{Outcome}
use Rattle.pids_charge.specs.Charges.{Charges, stands, home_id}
use Rattle.pid_types.specs.Outcome.{refused}
use Rattle.pid_types.specs.Changes.{remove_control}
use Rattle.task_table.specs.Store.{Store}
use Rattle.task_table.specs.View.{state_of}
use Rattle.set_calls.proofs.Answered.{not-removed, removed, after-removal}
use Rattle.set_calls.proofs.Rehomed.{parents-rehomed}
use Rattle.set_calls.proofs.controls.remove_control.Goals as goal

refused_here : (c : goal.In-Err) → ◌≡◌ {A = Outcome} (remove_control (state_of c.args.store.now) c.args.id) (refused (state_of c.args.store.now) c.in-Err.refusal)
refused_here c =
    let old = c.args.store.now in
    let key = c.in-Some.key in
    let there = ap (λ (v : Charges). is_some (control_at v.controls c.args.id)) (sym c.controls.ensures) ∙ c.in-Some.ensures.there in
    let standing = ap (λ (v : Charges). stands v c.in-Some.key) (sym c.controls.ensures) ∙ c.in-Some.ensures.stands in
    let is = ap (λ (v : Charges). home_id v c.in-Some.key) (sym c.controls.ensures) ∙ c.in-Some.ensures.id in
    not-removed old c.laws.ensures key c.args.id standing is there c.requires.alone c.in-Err.refusal (sym c.in-Err.ensures.refusal)

pub returns-in-Err-clause-state : goal.returns-in-Err-clause-state
returns-in-Err-clause-state c = ap state_of c.in-Err.ensures.err ∙ sym (ap (λ (o : Outcome). o.state) (refused_here c))

pub returns-in-Err-clause-reply : goal.returns-in-Err-clause-reply
returns-in-Err-clause-reply c = sym (ap (λ (o : Outcome). o.reply) (refused_here c))

pub returns-in-Ok : goal.returns-in-Ok
returns-in-Ok c =
    let old = c.args.store.now in
    let new = c.remove_control.new.self in
    let key = c.in-Some.key in
    let there = ap (λ (v : Charges). is_some (control_at v.controls c.args.id)) (sym c.controls.ensures) ∙ c.in-Some.ensures.there in
    let standing = ap (λ (v : Charges). stands v c.in-Some.key) (sym c.controls.ensures) ∙ c.in-Some.ensures.stands in
    let is = ap (λ (v : Charges). home_id v c.in-Some.key) (sym c.controls.ensures) ∙ c.in-Some.ensures.id in
    let gone = removed old c.laws.ensures key c.args.id standing is there c.requires.alone (sym c.in-Ok.ensures.refusal) in
    record {
      state = sym (ap (λ (o : Outcome). o.state) gone.2
          ∙ after-removal old c.laws.ensures key c.args.id standing is there c.requires.alone new c.laws-in-Ok.ensures c.remove_control.ensures.rest gone.0 c.in-Ok.ensures.controls
          (c.in-Ok.ensures.homes gone.0 (ap (parent_control old.charges.controls) is ∙ gone.1)));
      reply = sym (ap (λ (o : Outcome). o.reply) gone.2);
      parents = parents-rehomed old new c.laws.ensures c.laws-in-Ok.ensures c.remove_control.ensures.rest c.requires.parents;
      threads = ap (λ (s : Store). s.threads) c.remove_control.ensures.rest;
    }
