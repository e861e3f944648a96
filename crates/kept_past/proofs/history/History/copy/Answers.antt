use Rattle.std.proofs.Common.{ap}
use Rattle.kept_past.specs.Opening.{Held}
use Rattle.kept_past.proofs.Past.{anew}
use Rattle.kept_past.proofs.history.History.copy.Goals as goal

pub invariant_of-self : goal.invariant_of-self
invariant_of-self c =
    anew _ _ _ _ _ _ _ _ _ _ c.self.view_is c.requires.none_waits c.len.ensures c.clear.ensures.entries (ap (λ (held : Held). held.state) c.in_ok-anew.ensures) c.laws.ensures c.requires.below
