use Rattle.std.proofs.Common.{◌≡◌, ◌++◌}
use Rattle.translate.specs.Gathered.{numbers_of_keys}
use Rattle.translate.proofs.page.gather.Given as goal

abbrev pub invariant-loop-key : goal.invariant-loop-key
invariant-loop-key l = record {
  gathered : l.numbers.items ++ numbers_of_keys l.store.numbering l.space l.from l.key-iterator
      ≡ l.initial.numbers.items ++ numbers_of_keys l.store.numbering l.space l.from l.initial.key-iterator;
}
