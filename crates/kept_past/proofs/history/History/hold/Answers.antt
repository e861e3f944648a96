use Rattle.std.proofs.Common.{ap}
use Rattle.kept_past.specs.Opening.{Held}
use Rattle.kept_past.proofs.Past.{begins}
use Rattle.kept_past.proofs.history.History.hold.Goals as goal

-- where nothing was held there was no entry
pub invariant_of-self : goal.invariant_of-self
invariant_of-self c = begins _ _ _ _ _ _ _ _ c.self.invariant c.self.view_is c.requires.bare (ap (λ (held : Held). held.state) c.in_ok-opening.ensures) c.laws.ensures c.requires.below
