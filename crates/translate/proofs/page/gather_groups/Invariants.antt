use Rattle.std.proofs.Common.{◌≡◌, ◌<◌, ◌+◌, ◌++◌, ℕ, List, length}
use Rattle.std.specs.List.{AllByRecursion}
use Rattle.member_lists.specs.Owners.{times}
use Rattle.translate.specs.Gathered.{numbers_of_keys, group_times}
use Rattle.translate.proofs.page.gather_groups.Given as goal

abbrev pub invariant-loop-group : goal.invariant-loop-group
invariant-loop-group l = record {
  rooms : AllByRecursion (λ g. g < length l.store.members) l.group-iterator;
  added : (keys : List ℕ) × (l.numbers.items ≡ l.initial.numbers.items ++ numbers_of_keys l.store.numbering l.space l.from keys)
      × ((k : ℕ) → times k keys + group_times l.store l.group-iterator k ≡ group_times l.store l.initial.group-iterator k);
}
