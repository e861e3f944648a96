use Rattle.std.proofs.Common.{◌∙◌, ap, sym, subst, w32}
use Rattle.std.proofs.lemmas.Int.{to_z-of_z}
use Rattle.std.proofs.lemmas.Result.{IfOk-weaker}
use Rattle.pid_types.specs.declared.call.Call.TheVariants.{SetPgid}
unfoldable use Rattle.pid_types.specs.Step.{step}
use Rattle.call_effects.specs.Touched.{Touches}
use Rattle.call_effects.specs.Whom.{none_or_one, target_seen}
use Rattle.call_effects.proofs.Touching.{touches_target}
use Rattle.call_effects.proofs.whom.touched_by_setpgid.Goals as goal

pub returns-clause-touches : goal.returns-clause-touches
returns-clause-touches c =
    let s = c.args.table.now in
    IfOk-weaker c.list_one.result _ _ (λ r is.
    subst (Touches s (step s c.args.stamp (SetPgid c.args.caller c.args.pid c.args.pgid)).state) (sym is)
    (touches_target s c.args.stamp c.laws.ensures c.requires c.no_threads.ensures.threads c.no_threads.ensures.left c.args.caller c.args.pid c.args.pgid c.target_root.result
    (c.target_root.ensures ∙ ap (target_seen s c.args.caller) (to_z-of_z w32 c.args.pid c.ranges.pid)))) c.list_one.ensures

pub returns-clause-just : goal.returns-clause-just
returns-clause-just c =
    IfOk-weaker c.list_one.result _ _ (λ r is.
    is ∙ ap none_or_one (c.target_root.ensures ∙ ap (target_seen c.args.table.now c.args.caller) (to_z-of_z w32 c.args.pid c.ranges.pid))) c.list_one.ensures
