use Rattle.std.proofs.Common.{map}
use Rattle.sound_store.specs.Groups.{ids_of}
use Rattle.sound_store.proofs.Groups.{GoesOn}
use Rattle.sound_store.proofs.controls.check_order.Given as goal

abbrev pub invariant-loop-id : goal.invariant-loop-id
invariant-loop-id l = GoesOn (ids_of l.controls) l.last (map (λ p. p.0) l.id-iterator)
