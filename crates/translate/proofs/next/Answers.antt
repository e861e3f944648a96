use Rattle.std.proofs.Common.{◌∙◌}
use Rattle.pid_types.specs.declared.call.Call.TheVariants.{Next}
use Rattle.pid_types.specs.Step.{step}
use Rattle.model_laws.specs.SightLaws.{next_from}
use Rattle.thread_view.specs.Full.{full_state}
use Rattle.translate.proofs.next.Goals as goal

pub returns-clause-seen : goal.returns-clause-seen
unfolding step
returns-clause-seen c caller n is =
    c.next.ensures ∙ c.queries_answer_seen.ensures (full_state c.args.store.now) 0 c.args.caller caller n (λ n. Next n c.args.kind c.args.from) is (next_from c.args.kind c.args.from)
