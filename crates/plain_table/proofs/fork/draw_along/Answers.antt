use Rattle.std.proofs.Common.{◌≡◌, ◌+◌, sym, ap, ◌∙◌, arith}
use Rattle.std.specs.Prelude.{is_none, Some}
use Rattle.pid_types.specs.Draw.{draw}
use Rattle.pid_types.specs.Fork.{drawn}
use Rattle.plain_table.proofs.Drawn.{find-here, find-further, map-further, drawn-Some}
use Rattle.plain_table.proofs.fork.draw_along.Goals as goal

pub returns-in_default : goal.returns-in_default
returns-in_default c =
    find-here (λ s. is_none (draw c.args.view.now s)) c.args.path.now c.loop-space.space-index c.loop-space-test.true c.loop-space.invariant.given (ap is_none (sym c.draw.ensures.value ∙ c.in_default.is))

pub overflow_add-number : goal.overflow_add-number
overflow_add-number c = omega (arith, c.in-Some.ensures.fits)

pub loop-space-preserved : goal.loop-space-preserved
loop-space-preserved c =
    let given : draw c.args.view.now _ ≡ Some c.in-Some.number = sym c.draw.ensures.value ∙ c.in-Some.is in
    let number : c.in-Some.number ≡ drawn c.args.view.now _ = drawn-Some c.args.view.now _ c.in-Some.number given in
    record {
      given = find-further (λ s. is_none (draw c.args.view.now s)) c.args.path.now c.loop-space.space-index c.loop-space-test.true c.loop-space.invariant.given (ap is_none given);
      numbers = c.push.ensures.items ∙ map-further (drawn c.args.view.now) c.args.path.now c.loop-space.space-index _ _ c.loop-space-test.true c.loop-space.invariant.numbers number;
      cursors = c.push-in-loop-space.ensures.items ∙ map-further (λ s. drawn c.args.view.now s + 1) c.args.path.now c.loop-space.space-index _ _ c.loop-space-test.true c.loop-space.invariant.cursors (ap (λ n. n + 1) number);
    }
