use Rattle.std.proofs.Common.{◌∙◌}
use Rattle.pid_types.specs.declared.call.Call.TheVariants.{GetPgid}
use Rattle.pid_types.specs.Step.{step}
use Rattle.model_laws.specs.SightLaws.{group_of}
use Rattle.thread_view.specs.Full.{full_state}
use Rattle.translate.proofs.get_pgid.Goals as goal

pub returns-clause-seen : goal.returns-clause-seen
unfolding step
returns-clause-seen c caller n is =
    c.get_pgid.ensures ∙ c.queries_answer_seen.ensures (full_state c.args.store.now) 0 c.args.caller caller n (λ n. GetPgid n c.args.pid) is (group_of c.args.pid)
