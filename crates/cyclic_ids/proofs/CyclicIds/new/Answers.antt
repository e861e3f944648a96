use Rattle.std.proofs.Common.{lit<}
use Rattle.cyclic_ids.proofs.Beside.{none_beside}
use Rattle.cyclic_ids.proofs.CyclicIds.new.Goals as goal

pub invariant_of-result : goal.invariant_of-result
invariant_of-result c = record {
  bound = c.requires;
  range = λ n some. absurd (some (none_beside _ _ _ _ c.new-2.ensures.empty c.new.ensures n));
  low = lit< tt;
  apart = λ n _. c.new.ensures n;
  unready = λ _ k. c.new-2.ensures.empty k;
}

pub returns-clause-empty : goal.returns-clause-empty
returns-clause-empty c = none_beside _ _ _ _ c.new-2.ensures.empty c.new.ensures
