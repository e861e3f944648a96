use Rattle.std.proofs.Common.{◌≡◌, sym, ap, ◌∙◌}
use Rattle.std.proofs.Common.{arith}
use Rattle.plain_view.proofs.Draws.{free_below-found, free_below-none}
use Rattle.plain_view.proofs.view.View.find_free.Goals as goal

pub returns-then-not-is_taken-clause-value : goal.returns-then-not-is_taken-clause-value
returns-then-not-is_taken-clause-value c =
    let bound : c.self.inside.pid_max ≡ c.args.self.now.pid_max = ap (λ s. s.pid_max) c.self.view_is in
    free_below-found _ _ _ _ (omega arith) (omega arith) c.loop-number.invariant (sym c.is_taken.ensures ∙ c.if-not-is_taken.true)

pub returns-clause-value : goal.returns-clause-value
returns-clause-value c =
    let bound : c.self.inside.pid_max ≡ c.args.self.now.pid_max = ap (λ s. s.pid_max) c.self.view_is in
    free_below-none _ _ _ (λ m above below. c.loop-number.invariant m above (omega arith))
