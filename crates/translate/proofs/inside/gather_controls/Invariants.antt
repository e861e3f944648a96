use Rattle.std.proofs.Common.{◌≡◌, ◌++◌, true, nat_le, filter, map}
use Rattle.std.specs.List.{AllByRecursion}
use Rattle.pids_charge.specs.Charges.{stands, home_id}
use Rattle.translate.proofs.inside.gather_controls.Given as goal

abbrev pub invariant-loop-key : goal.invariant-loop-key
invariant-loop-key l = record {
  standing : AllByRecursion (λ k. stands l.store.charges k ≡ true) l.key-iterator;
  gathered : l.ids.items ++ filter (nat_le l.from) (map (home_id l.store.charges) l.key-iterator)
      ≡ l.initial.ids.items ++ filter (nat_le l.from) (map (home_id l.store.charges) l.initial.key-iterator);
}
