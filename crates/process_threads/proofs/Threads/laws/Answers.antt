use Rattle.std.proofs.Common.{length, sym, ap, ◌∙◌}
use Rattle.process_threads.specs.Threads.{ThreadsByKey}
use Rattle.process_threads.proofs.Told as told
use Rattle.process_threads.proofs.Threads.laws.Goals as goal

pub returns-clause-rooms : goal.returns-clause-rooms
returns-clause-rooms c =
    ap (λ (v : ThreadsByKey). length v.left) (sym c.self.view_is) ∙ c.self.invariant.left_rooms
    ∙ sym (told.rooms _ _ _ _ c.self.view_is c.self.invariant.rooms)

pub returns-clause-known : goal.returns-clause-known
returns-clause-known c k p mine =
    rw (told.rooms _ _ _ _ c.self.view_is c.self.invariant.rooms)
    (c.self.invariant.known k p (sym (told.process_is _ _ _ _ c.self.view_is c.self.invariant.rooms k) ∙ mine))

pub returns-clause-few : goal.returns-clause-few
returns-clause-few c = rw (told.rooms _ _ _ _ c.self.view_is c.self.invariant.rooms) c.self.invariant.few
