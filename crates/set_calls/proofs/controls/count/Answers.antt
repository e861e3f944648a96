use Rattle.std.proofs.Common.{◌∙◌, is_some, sym, ap}
use Rattle.pid_types.specs.declared.reply.Reply.TheVariants.{Counted}
use Rattle.pid_types.specs.Controls.{control_at}
use Rattle.pid_types.specs.Outcome.{Outcome}
use Rattle.pids_charge.specs.Charges.{Charges, charged_count, home_id}
use Rattle.thread_view.specs.Full.{full_state}
use Rattle.thread_view.proofs.Counted.{count-full}
use Rattle.set_calls.proofs.Answered.{is-counted}
use Rattle.set_calls.proofs.controls.count.Goals as goal

pub returns : goal.returns
returns c =
    let s = c.args.store.now in
    let there = ap (λ (v : Charges). is_some (control_at v.controls c.args.id)) (sym c.controls.ensures) ∙ c.in-Some.ensures.there in
    let is = is-counted (full_state s) c.args.id there in
    let own = ap (λ (v : Charges). home_id v c.in-Some.key) (sym c.controls.ensures) ∙ c.in-Some.ensures.id in
    record {
      state = ap (λ (o : Outcome). o.state) is;
      reply = sym (ap (λ (o : Outcome). o.reply) is ∙ ap Counted (sym (c.count.ensures ∙ ap (λ (v : Charges). charged_count v (home_id v c.in-Some.key)) c.controls-2.ensures ∙ ap (charged_count s.charges) own ∙ count-full s c.laws.ensures c.thread_laws.ensures c.args.id)));
    }
