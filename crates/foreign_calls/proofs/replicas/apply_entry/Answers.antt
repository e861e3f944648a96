use Rattle.std.proofs.Common.{refl}
use Rattle.foreign_calls.proofs.replicas.apply_entry.Goals as goal

pub returns-in-Ok : goal.returns-in-Ok
returns-in-Ok c = record {
  done = λ _. record { what = c.in-Ok.what; applies = c.in-Ok.ensures.ok; numbers = cc };
  refused = λ not. absurd (not refl);
  not_done = λ not. absurd (not refl);
}
