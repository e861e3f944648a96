use Rattle.std.proofs.Common.{Option, refl, ap}
use Rattle.replica.specs.Log.{Hosted}
use Rattle.foreign_handles.proofs.replica_handle.ReplicaHandle.look.Goals as goal

-- a handle whose replica is what it was is what it was
pub returns : goal.returns
returns c = ((refl, (λ _. tt), ap (λ (o : Option Hosted). record c.args.self.now { held = o }) c.lend.ensures.value), record { rests = tt; value = c.lend.ensures.value })
