use Rattle.std.proofs.Common.{sym, ap}
use Rattle.pid_types.specs.declared.call.Call.{Call}
use Rattle.pid_types.specs.Step.{step}
use Rattle.kept_past.proofs.history.enter_call.Goals as goal

pub returns-in-NsPid-clause-state : goal.returns-in-NsPid-clause-state
unfolding step
returns-in-NsPid-clause-state c = ap (λ (call : Call). (step c.args.table.now c.args.stamp call).state) (sym c.in-NsPid.is)
