use Rattle.std.proofs.Common.{◌∙◌, ap, sym, subst}
use Rattle.std.proofs.lemmas.Result.{IfOk-weaker}
use Rattle.pid_types.specs.declared.call.Call.TheVariants.{SetSid}
unfoldable use Rattle.pid_types.specs.Step.{step}
use Rattle.call_effects.specs.Touched.{Touches}
use Rattle.call_effects.specs.Whom.{none_or_one}
use Rattle.call_effects.proofs.Touching.{touches_leader}
use Rattle.call_effects.proofs.whom.touched_by_setsid.Goals as goal

pub returns-clause-touches : goal.returns-clause-touches
returns-clause-touches c =
    let s = c.args.table.now in
    IfOk-weaker c.list_one.result _ _ (λ r is.
    subst (Touches s (step s c.args.stamp (SetSid c.args.caller)).state) (sym is)
    (touches_leader s c.args.stamp c.laws.ensures c.requires c.no_threads.ensures.threads c.no_threads.ensures.left c.args.caller c.root_of.result c.root_of.ensures)) c.list_one.ensures

pub returns-clause-just : goal.returns-clause-just
returns-clause-just c = IfOk-weaker c.list_one.result _ _ (λ r is. is ∙ ap none_or_one c.root_of.ensures) c.list_one.ensures
