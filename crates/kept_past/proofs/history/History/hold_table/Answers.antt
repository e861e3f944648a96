use Rattle.std.proofs.Common.{ap}
use Rattle.kept_past.specs.Opening.{Held}
use Rattle.kept_past.proofs.Past.{exchanged, exchanged-is}
use Rattle.kept_past.proofs.history.History.hold_table.Goals as goal

-- a snapshot had the same state, and where nothing was held there was no entry
pub invariant_of-self : goal.invariant_of-self
invariant_of-self c = exchanged _ _ _ _ _ _ _ _ c.self.invariant c.self.view_is c.requires.same c.requires.below (ap (λ (held : Held). held.state) c.table.ensures) c.laws.ensures

pub returns : goal.returns
returns c = exchanged-is _ _ _ _ _ _ _ _ c.self.invariant c.self.view_is c.requires.same (ap (λ (held : Held). held.state) c.table.ensures) (ap (λ (held : Held). held.is_fixed) c.table.ensures)
