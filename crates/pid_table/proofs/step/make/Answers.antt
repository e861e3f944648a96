use Rattle.std.proofs.Common.{sym, ap, ◌∙◌}
use Rattle.pid_types.specs.declared.call.Call.{Call}
use Rattle.pid_types.specs.Step.{step}
use Rattle.task_table.specs.View.{state_of}
use Rattle.pid_table.proofs.step.make.Goals as goal

pub returns-in-NsPid-clause-reply : goal.returns-in-NsPid-clause-reply
returns-in-NsPid-clause-reply c = c.put_ns_pid.ensures c.args.stamp ∙ ap (λ (call : Call). (step (state_of c.args.store.now) c.args.stamp call).reply) (sym c.in-NsPid.is)
