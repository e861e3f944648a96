use Rattle.std.proofs.Common.{◌∙◌, rules, subst, sym, refl}
use Rattle.pid_types.specs.State.{State}
use Rattle.call_effects.specs.Effects.{AreEffects}
use Rattle.call_effects.specs.Touched.{Watches}
use Rattle.foreign_handles.specs.Held.{stamped}
use Rattle.foreign_calls.proofs.Told.{state_made}
use Rattle.foreign_calls.proofs.effects.call_told.Goals as goal

pub returns-clause-effects : goal.returns-clause-effects
returns-clause-effects c =
    let made = state_made c.args.held.now c.call-status.new.held c.args.worker c.args.made c.args.ordinal.now c.call-status.new.ordinal (c.call-status.ensures.makes.done c.if-status-ne-DONE.false) in
    let old = (stamped c.args.held.now).state in
    let watched = subst (λ (s : State). Watches old s c.in-Ok.touched) (sym (c.table.ensures ∙ made)) c.in-Ok.ensures.before in
    let are = subst (λ (s : State). AreEffects old s c.effects-effects.result.items) c.table.ensures (c.effects-effects.ensures.effects old watched) in
    record {
      done = λ _. record {
        effects = c.effects-effects.result.items;
        are = are;
        put = search rules;
        counted = search rules;
        fits = search rules;
      };
      not_done = λ not. absurd (not refl);
      counted = λ not. absurd (not refl);
    }
