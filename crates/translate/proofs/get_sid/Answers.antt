use Rattle.std.proofs.Common.{◌∙◌}
use Rattle.pid_types.specs.declared.call.Call.TheVariants.{GetSid}
use Rattle.pid_types.specs.Step.{step}
use Rattle.model_laws.specs.SightLaws.{session_of}
use Rattle.thread_view.specs.Full.{full_state}
use Rattle.translate.proofs.get_sid.Goals as goal

pub returns-clause-seen : goal.returns-clause-seen
unfolding step
returns-clause-seen c caller n is =
    c.get_sid.ensures ∙ c.queries_answer_seen.ensures (full_state c.args.store.now) 0 c.args.caller caller n (λ n. GetSid n c.args.pid) is (session_of c.args.pid)
