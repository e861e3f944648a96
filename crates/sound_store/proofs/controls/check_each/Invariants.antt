use Rattle.std.proofs.Common.{◌≡◌, ◌⊎◌, ℕ, true, map}
use Rattle.std.specs.List.{AllByRecursion}
use Rattle.pid_types.specs.Membership.{IsIn}
use Rattle.pids_charge.specs.Charges.{stands, home_id}
use Rattle.sound_store.specs.Groups.{IsGoodControl, ids_of}
use Rattle.sound_store.proofs.controls.check_each.Given as goal

abbrev pub invariant-loop-id : goal.invariant-loop-id
invariant-loop-id l = record {
  each : (id : ℕ) → IsIn id (ids_of l.controls) → IsGoodControl l.controls id ⊎ IsIn id (map (λ p. p.0) l.id-iterator);
  listed : (id : ℕ) → IsIn id (map (λ p. p.0) l.id-iterator) → IsIn id (ids_of l.controls);
  keys : AllByRecursion (λ p. (stands l.controls p.1 ≡ true) × (home_id l.controls p.1 ≡ p.0)) l.id-iterator;
}
