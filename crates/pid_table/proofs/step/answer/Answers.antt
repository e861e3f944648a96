use Rattle.std.proofs.Common.{sym, ap, ◌∙◌}
use Rattle.pid_types.specs.declared.call.Call.{Call}
use Rattle.pid_types.specs.Step.{step}
use Rattle.task_table.specs.View.{state_of}
use Rattle.pid_table.proofs.step.answer.Goals as goal

pub returns-in-NsPid : goal.returns-in-NsPid
returns-in-NsPid c stamp = c.put_ns_pid.ensures stamp ∙ ap (λ (call : Call). (step (state_of c.args.store.now) stamp call).reply) (sym c.in-NsPid.is)
