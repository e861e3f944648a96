-- No namespace on the path is full, so only a control group can refuse; else one more thread by key is one more by number
use Rattle.std.proofs.Common.{◌≡◌, ◌∙◌, Some, None, sym, ap}
use Rattle.std.specs.Result.{result_err}
use Rattle.pid_types.specs.Outcome.{Outcome}
use Rattle.pids_charge.specs.Charges.{charge_refusal, home_id}
use Rattle.task_table.specs.View.{name_at}
use Rattle.fork_calls.proofs.Cloned as cloned
use Rattle.fork_calls.proofs.threads.thread_planned.Goals as goal

pub returns-in-Err-clause-state : goal.returns-in-Err-clause-state
returns-in-Err-clause-state c =
    let s = c.args.store.now in
    let full : Some c.in-Err.refusal ≡ charge_refusal s.charges (home_id s.charges c.args.task.now.home) =
    sym (ap result_err c.in-Err.is) ∙ c.may_charge.ensures ∙ ap (λ v. charge_refusal v (home_id v c.args.task.now.home)) c.controls.ensures in
    let is = cloned.not-threaded s c.laws.ensures c.thread_laws.ensures c.args.calling.now c.args.task.now c.requires.may _ c.in-Err.refusal
    (cloned.thread-room s c.laws.ensures c.thread_laws.ensures c.args.calling.now c.args.task.now c.requires.may c.requires.planned.all) (sym full) in
    sym (ap (λ (o : Outcome). o.state) is)

pub returns-in-Err-clause-reply : goal.returns-in-Err-clause-reply
returns-in-Err-clause-reply c =
    let s = c.args.store.now in
    let full : Some c.in-Err.refusal ≡ charge_refusal s.charges (home_id s.charges c.args.task.now.home) =
    sym (ap result_err c.in-Err.is) ∙ c.may_charge.ensures ∙ ap (λ v. charge_refusal v (home_id v c.args.task.now.home)) c.controls.ensures in
    let is = cloned.not-threaded s c.laws.ensures c.thread_laws.ensures c.args.calling.now c.args.task.now c.requires.may _ c.in-Err.refusal
    (cloned.thread-room s c.laws.ensures c.thread_laws.ensures c.args.calling.now c.args.task.now c.requires.may c.requires.planned.all) (sym full) in
    sym (ap (λ (o : Outcome). o.reply) is)

pub returns-clause-state : goal.returns-clause-state
returns-clause-state c =
    let s = c.args.store.now in
    let room : None ≡ charge_refusal s.charges (home_id s.charges c.args.task.now.home) =
    sym (ap result_err c.in_default.is) ∙ c.may_charge.ensures ∙ ap (λ v. charge_refusal v (home_id v c.args.task.now.home)) c.controls.ensures in
    cloned.state-threaded s c.laws.ensures c.thread_laws.ensures c.args.calling.now c.args.task.now c.requires.may c.start_thread.new.self c.laws-2.ensures c.thread_laws-2.ensures
    c.requires.full.processes c.requires.full.parents c.in_ok-key.key c.args.numbers.now c.in_ok-key.ensures.begun c.requires.planned.planned
    (cloned.thread-room s c.laws.ensures c.thread_laws.ensures c.args.calling.now c.args.task.now c.requires.may c.requires.planned.all ∙ sym room)

pub returns-clause-reply : goal.returns-clause-reply
returns-clause-reply c =
    let s = c.args.store.now in
    let room : None ≡ charge_refusal s.charges (home_id s.charges c.args.task.now.home) =
    sym (ap result_err c.in_default.is) ∙ c.may_charge.ensures ∙ ap (λ v. charge_refusal v (home_id v c.args.task.now.home)) c.controls.ensures in
    let none = cloned.thread-room s c.laws.ensures c.thread_laws.ensures c.args.calling.now c.args.task.now c.requires.may c.requires.planned.all ∙ sym room in
    c.reply_for.ensures (name_at s.numbering c.args.calling.now.process).space
    (cloned.own-id s c.laws.ensures c.thread_laws.ensures c.args.calling.now c.args.task.now c.requires.may c.start_thread.new.self c.laws-2.ensures c.thread_laws-2.ensures
    c.requires.full.processes c.requires.full.parents c.in_ok-key.key c.args.numbers.now c.in_ok-key.ensures.begun c.requires.planned.planned none)
    ∙ cloned.reply-threaded s c.laws.ensures c.thread_laws.ensures c.args.calling.now c.args.task.now c.requires.may c.start_thread.new.self c.laws-2.ensures c.thread_laws-2.ensures
    c.requires.full.processes c.requires.full.parents c.in_ok-key.key c.args.numbers.now c.in_ok-key.ensures.begun c.requires.planned.planned none
