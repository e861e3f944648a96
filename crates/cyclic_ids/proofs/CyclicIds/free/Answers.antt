use Rattle.std.proofs.Common.{sym, ap, ◌∙◌, not, refl, rules}
use Rattle.std.proofs.Math.Bool.{not-not}
use Rattle.cyclic_ids.proofs.Draws.{range_written}
use Rattle.cyclic_ids.proofs.Beside.{entry_in_leaf, entry_in_tree, written_leaf, written_tree, apart_written, empty_if, then_kept}
use Rattle.cyclic_ids.proofs.CyclicIds.free.Goals as goal

pub invariant_of-self : goal.invariant_of-self
invariant_of-self c = record {
  bound = c.self.invariant.bound;
  range = range_written c.self.inside.pid_max c.args.n _ _ _ c.self.invariant.range (written_tree c.self.inside.is_ready _ c.self.inside.leaf.places c.self.inside.ids c.erase.new.self c.args.n _ c.if-n-self.true c.erase.ensures.writes) (λ some. absurd (some refl));
  low = c.self.invariant.low;
  apart = apart_written _ _ _ c.args.n _ c.self.invariant.apart c.if-n-self.true c.erase.ensures.writes;
  unready = c.self.invariant.unready;
}

pub returns-then-n-self-clause-writes : goal.returns-then-n-self-clause-writes
returns-then-n-self-clause-writes c = rw (← c.self.view_is) (written_tree _ _ _ _ _ _ _ c.if-n-self.true c.erase.ensures.writes)

pub returns-then-n-self-clause-answer : goal.returns-then-n-self-clause-answer
returns-then-n-self-clause-answer c = rw (← c.self.view_is, entry_in_tree c.self.inside.is_ready c.self.inside.block c.self.inside.leaf.places c.self.inside.ids c.args.n c.if-n-self.true) c.erase.ensures.answer

pub invariant_of-self-2 : goal.invariant_of-self-2
invariant_of-self-2 c = record {
  bound = c.self.invariant.bound;
  range = range_written c.self.inside.pid_max c.args.n _ _ _ c.self.invariant.range (written_leaf _ (not c.is_empty.result) _ c.self.inside.leaf.places c.erase-old.new.self.places c.self.inside.ids c.args.n _ c.if-n-self.false c.erase-old.ensures.writes) (λ some. absurd (some refl));
  low = c.self.invariant.low;
  apart = c.self.invariant.apart;
  unready = λ off. empty_if _ c.is_empty.result (sym (not-not c.is_empty.result) ∙ ap not off) c.is_empty.ensures;
}

pub returns-clause-writes : goal.returns-clause-writes
returns-clause-writes c =
    then_kept (rw (← c.self.view_is) (written_leaf _ (not c.is_empty.result) _ _ _ _ _ _ c.if-n-self.false c.erase-old.ensures.writes)) c.give_back_empty.ensures.entries

pub returns-clause-answer : goal.returns-clause-answer
returns-clause-answer c = rw (← c.self.view_is, entry_in_leaf c.self.inside.is_ready c.self.inside.block c.self.inside.leaf.places c.self.inside.ids c.args.n c.if-n-self.false) c.erase-old.ensures.answer

pub returns-clause-cursor : goal.returns-clause-cursor
returns-clause-cursor c = search rules
