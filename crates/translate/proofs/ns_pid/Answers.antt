use Rattle.std.proofs.Common.{◌∙◌}
use Rattle.pid_types.specs.declared.call.Call.TheVariants.{NsPid}
use Rattle.pid_types.specs.Step.{step}
use Rattle.model_laws.specs.SightLaws.{numbers_of}
use Rattle.task_table.specs.View.{state_of}
use Rattle.translate.proofs.ns_pid.Goals as goal

pub returns-clause-seen : goal.returns-clause-seen
unfolding step
returns-clause-seen c caller n is =
    c.ns_pid.ensures.value.tells ∙ c.queries_answer_seen.ensures (state_of c.args.store.now) 0 c.args.caller caller n (λ n. NsPid n c.args.target) is (numbers_of c.args.target)
