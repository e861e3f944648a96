use Rattle.std.proofs.Common.{Option, refl, ap}
use Rattle.foreign_handles.specs.declared.held.Held.{Held}
use Rattle.foreign_handles.proofs.handle.Handle.look.Goals as goal

-- a handle whose table is what it was is what it was
pub returns : goal.returns
returns c = ((refl, (λ _. tt), ap (λ (o : Option Held). record c.args.self.now { held = o }) c.lend.ensures.value), record { rests = tt; value = c.lend.ensures.value })
