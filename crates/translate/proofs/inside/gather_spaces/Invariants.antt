use Rattle.std.proofs.Common.{◌≡◌, ◌++◌, nat_le, filter, filter_map}
use Rattle.pid_numbers.specs.Numbering.{id_at}
use Rattle.translate.proofs.inside.gather_spaces.Given as goal

abbrev pub invariant-loop-key : goal.invariant-loop-key
invariant-loop-key l = record {
  gathered : l.ids.items ++ filter (nat_le l.from) (filter_map (id_at l.store.numbering) l.key-iterator)
      ≡ l.initial.ids.items ++ filter (nat_le l.from) (filter_map (id_at l.store.numbering) l.initial.key-iterator);
}
