use Rattle.std.proofs.Common.{sym, subst}
unfoldable use Rattle.pid_types.specs.Step.{step}
use Rattle.call_effects.specs.Touched.{Touches}
use Rattle.call_effects.proofs.Touching.{is_plain, untouched}
use Rattle.call_effects.proofs.whom.touched_by.Goals as goal

pub returns-in_default-clause-touches : goal.returns-in_default-clause-touches
returns-in_default-clause-touches c =
    let s = c.args.table.now in
    let none = c.in_default in
    subst (Touches s (step s c.args.stamp c.args.call).state) (sym c.new.ensures.items)
    (untouched s c.args.stamp c.laws.ensures c.requires c.no_threads.ensures.threads c.no_threads.ensures.left c.args.call (is_plain c.args.call none.not-Exit none.not-Wait none.not-SetPgid none.not-SetSid))
