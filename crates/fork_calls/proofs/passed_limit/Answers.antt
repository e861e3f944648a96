use Rattle.std.proofs.Common.{◌∙◌, sym, ap}
use Rattle.std.specs.Result.{result_err}
use Rattle.pids_charge.specs.Charges.{charge_refusal, stands, home_id}
use Rattle.task_table.proofs.InUse.{live-home}
use Rattle.fork_calls.proofs.Limits.{limit-is}
use Rattle.fork_calls.proofs.passed_limit.Goals as goal

pub may_charge-requires : goal.may_charge-requires
may_charge-requires c = ap (λ v. stands v c.args.found.now.task.home) c.controls.ensures ∙ live-home c.args.store.now c.laws.ensures c.args.found.now.key c.args.found.now.task c.requires.caller.found.there c.requires.caller.live
    (c.requires.whole.alone.stays c.args.found.now.key)

pub returns-in-Ok : goal.returns-in-Ok
returns-in-Ok c =
    sym (ap result_err c.in-Ok.is) ∙ c.may_charge.ensures ∙ ap (λ v. charge_refusal v (home_id v c.args.found.now.task.home)) c.controls.ensures
    ∙ limit-is c.args.store.now c.laws.ensures c.requires.whole.alone (home_id c.args.store.now.charges c.args.found.now.task.home)

pub returns-in-Err : goal.returns-in-Err
returns-in-Err c =
    sym (ap result_err c.in-Err.is) ∙ c.may_charge.ensures ∙ ap (λ v. charge_refusal v (home_id v c.args.found.now.task.home)) c.controls.ensures
    ∙ limit-is c.args.store.now c.laws.ensures c.requires.whole.alone (home_id c.args.store.now.charges c.args.found.now.task.home)
