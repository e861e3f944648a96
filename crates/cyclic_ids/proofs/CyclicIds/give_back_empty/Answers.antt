use Rattle.std.proofs.Common.{◌∙◌}
use Rattle.cyclic_ids.proofs.Beside.{same_tree}
use Rattle.cyclic_ids.proofs.CyclicIds.give_back_empty.Goals as goal

pub invariant_of-self : goal.invariant_of-self
invariant_of-self c = record {
  bound = c.self.invariant.bound;
  range = λ n some. c.self.invariant.range n (λ none. some (same_tree _ c.self.inside.is_ready _ c.self.inside.leaf.places c.self.inside.ids c.give_back.new.self c.give_back.ensures n ∙ none));
  low = c.self.invariant.low;
  apart = λ n here. c.give_back.ensures n ∙ c.self.invariant.apart n here;
  unready = c.self.invariant.unready;
}

pub returns-then-self-clause-entries : goal.returns-then-self-clause-entries
returns-then-self-clause-entries c = rw (← c.self.view_is) (same_tree _ _ _ _ _ _ c.give_back.ensures)
