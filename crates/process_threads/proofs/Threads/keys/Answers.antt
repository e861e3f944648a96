use Rattle.std.proofs.Common.{length, sym, ap, ◌∙◌}
use Rattle.process_threads.specs.Threads.{ThreadsByKey}
use Rattle.process_threads.proofs.Told as told
use Rattle.process_threads.proofs.Threads.keys.Goals as goal

pub returns-clause-threads : goal.returns-clause-threads
returns-clause-threads c = c.keys.ensures ∙ sym (told.rooms _ _ _ _ c.self.view_is c.self.invariant.rooms)

pub returns-clause-left : goal.returns-clause-left
returns-clause-left c = c.keys.ensures ∙ sym c.self.invariant.left_rooms ∙ ap (λ (v : ThreadsByKey). length v.left) c.self.view_is
