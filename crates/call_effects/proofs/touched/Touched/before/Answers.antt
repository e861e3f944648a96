use Rattle.std.proofs.Common.{◌∙◌, [], sym, subst, arith}
use Rattle.std.proofs.lemmas.Result.{IfOk-weaker}
unfoldable use Rattle.pid_types.specs.Step.{step}
use Rattle.model_laws.proofs.StepKept.{step_keeps}
use Rattle.call_effects.specs.Touched.{Touches, Watches}
use Rattle.call_effects.proofs.KeptSpaces.{keeps_spaces}
use Rattle.call_effects.proofs.Touching.{untouched}
use Rattle.call_effects.specs.Reckoned.{IsReckoned, Reckons}
use Rattle.call_effects.proofs.Reckoning.{touching_none, reckoned_none}
use Rattle.call_effects.proofs.Watching.{watches_none}
use Rattle.call_effects.proofs.touched.Touched.before.Goals as goal

pub returns-then-not-may_touch-clause-watches : goal.returns-then-not-may_touch-clause-watches
returns-then-not-may_touch-clause-watches c =
    let s = c.args.table.now in
    let new = (step s c.args.stamp c.args.call).state in
    subst (Watches s new) (sym c.none.ensures)
    (watches_none s new c.laws.ensures c.no_threads.ensures.threads (step_keeps s c.args.stamp c.args.call c.laws.ensures c.requires).0
    (untouched s c.args.stamp c.laws.ensures c.requires c.no_threads.ensures.threads c.no_threads.ensures.left c.args.call (sym c.may_touch.ensures ∙ c.if-not-may_touch.true))
    (keeps_spaces s c.args.stamp c.args.call c.laws.ensures c.requires))

pub returns-clause-touching : goal.returns-clause-touching
returns-clause-touching c = grind arith

pub returns-clause-err : goal.returns-clause-err
returns-clause-err c = grind arith

pub returns-clause-watches : goal.returns-clause-watches
returns-clause-watches c =
    let s = c.args.table.now in
    let new = (step s c.args.stamp c.args.call).state in
    IfOk-weaker c.watch.result _ _ (λ w all.
    all new (step_keeps s c.args.stamp c.args.call c.laws.ensures c.requires).0 (subst (Touches s new) (sym c.deref.ensures.value) c.in_ok-numbers.ensures.touches)
    (keeps_spaces s c.args.stamp c.args.call c.laws.ensures c.requires)) c.watch.ensures.watches

pub returns-then-not-may_touch-clause-reckons : goal.returns-then-not-may_touch-clause-reckons
returns-then-not-may_touch-clause-reckons c =
    subst (Reckons c.args.table.now c.args.stamp c.args.call) (sym c.none.ensures)
    ([], touching_none c.args.table.now c.args.stamp c.args.call (sym c.may_touch.ensures ∙ c.if-not-may_touch.true), reckoned_none c.args.table.now)

pub returns-clause-reckons : goal.returns-clause-reckons
returns-clause-reckons c =
    IfOk-weaker c.watch.result _ _ (λ w is. (c.in_ok-numbers.numbers.items, c.in_ok-numbers.ensures.just, subst (λ ns. IsReckoned c.args.table.now ns w) c.deref.ensures.value is)) c.watch.ensures.reckoned
