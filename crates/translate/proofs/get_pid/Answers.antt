use Rattle.std.proofs.Common.{◌∙◌}
use Rattle.pid_types.specs.declared.call.Call.TheVariants.{GetPid}
use Rattle.pid_types.specs.Step.{step}
use Rattle.model_laws.specs.SightLaws.{own_number}
use Rattle.thread_view.specs.Full.{full_state}
use Rattle.translate.proofs.get_pid.Goals as goal

pub returns-clause-seen : goal.returns-clause-seen
unfolding step
returns-clause-seen c caller n is =
    c.get_pid.ensures ∙ c.queries_answer_seen.ensures (full_state c.args.store.now) 0 c.args.caller caller n (GetPid) is (own_number)
