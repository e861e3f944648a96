use Rattle.std.proofs.lemmas.List.Filters.{dedup_is}
use Rattle.call_effects.proofs.distinct.sort_distinct.Goals as goal

pub returns-clause-sorts : goal.returns-clause-sorts
returns-clause-sorts g c = record {
  sorted = c.sort_unstable.new.self.items;
  permutes = c.sort_unstable.ensures.permutation;
  in_order = c.sort_unstable.ensures.sorted;
  is = dedup_is _ _ _ c.dedup.ensures.filtered;
}
