use Rattle.std.proofs.Common.{◌⊎◌, ℕ}
use Rattle.pid_types.specs.Membership.{IsIn}
use Rattle.sound_store.specs.Spaces.{IsGoodSpace}
use Rattle.sound_store.proofs.spaces.check_spaces.Given as goal

abbrev pub invariant-loop-id : goal.invariant-loop-id
invariant-loop-id l = record {
  each : (p : ℕ × ℕ) → IsIn p l.store.numbering.order → IsGoodSpace l.store p.0 p.1 ⊎ IsIn p l.id-iterator;
  listed : (p : ℕ × ℕ) → IsIn p l.id-iterator → IsIn p l.store.numbering.order;
}
