use Rattle.std.proofs.Common.{ap, sym, ◌∙◌, refl}
use Rattle.std.proofs.lemmas.Bool.{false≢true}
use Rattle.cyclic_ids.proofs.Draws.{planned-same}
use Rattle.cyclic_ids.proofs.Beside.{in_leaf, same_tree, keeps_beside}
use Rattle.cyclic_ids.proofs.CyclicIds.prepare.Goals as goal

pub invariant_of-self : goal.invariant_of-self
invariant_of-self c = record {
  bound = c.self.invariant.bound;
  range = λ n some. c.self.invariant.range n (λ none. some (same_tree c.self.inside.is_ready _ _ c.self.inside.leaf.places c.self.inside.ids c.self.inside.ids (λ j. refl) n ∙ none));
  low = c.self.invariant.low;
  apart = c.self.invariant.apart;
  unready = λ off. absurd (false≢true (sym off));
}

pub returns-clause-ok : goal.returns-clause-ok
returns-clause-ok c = ap (λ p. p.prepared) (in_leaf _ _ _ _ c.args.n c.if-n-self.false)

pub returns-clause-entries : goal.returns-clause-entries
returns-clause-entries c = rw (← c.self.view_is) (same_tree _ _ _ _ _ _ (λ j. refl))

pub returns-clause-keeps : goal.returns-clause-keeps
returns-clause-keeps c = rw (← c.self.view_is) (keeps_beside _ _ _ _ _ _ _ (λ on. refl) (λ j on. on))

pub returns-clause-planned : goal.returns-clause-planned
returns-clause-planned c = rw (← c.self.view_is) (planned-same _ _ _ _ (same_tree _ _ _ _ _ _ (λ j. refl)))
