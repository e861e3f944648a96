-- A mark on a free number makes no entry: so all numbers in use stay in range, and the tree stays empty in the leaf's block
use Rattle.std.proofs.Common.{true}
use Rattle.cyclic_ids.proofs.Draws.{range_written, marked_some}
use Rattle.cyclic_ids.proofs.Beside.{entry_in_leaf, entry_in_tree, written_leaf, written_tree, apart_written, empty_marked, keeps_beside}
use Rattle.cyclic_ids.proofs.CyclicIds.set_mark.Goals as goal

pub invariant_of-self : goal.invariant_of-self
invariant_of-self c =
    let e = entry_in_leaf c.self.inside.is_ready c.self.inside.block c.self.inside.leaf.places c.self.inside.ids c.args.n c.if-n-self.true in
    record {
      bound = c.self.invariant.bound;
      range = range_written c.self.inside.pid_max c.args.n _ _ _ c.self.invariant.range (written_leaf _ c.self.inside.is_ready _ c.self.inside.leaf.places c.set_mark.new.self.places c.self.inside.ids c.args.n _ c.if-n-self.true c.set_mark.ensures.writes) (λ some. c.self.invariant.range c.args.n (rw e (marked_some c.args.m true _ some)));
      low = c.self.invariant.low;
      apart = c.self.invariant.apart;
      unready = λ off. empty_marked _ _ _ _ _ (c.self.invariant.unready off) c.set_mark.ensures.writes;
    }

pub returns-then-n-self-clause-writes : goal.returns-then-n-self-clause-writes
returns-then-n-self-clause-writes c =
    rw (← c.self.view_is, entry_in_leaf c.self.inside.is_ready c.self.inside.block c.self.inside.leaf.places c.self.inside.ids c.args.n c.if-n-self.true) (written_leaf _ _ _ _ _ _ _ _ c.if-n-self.true c.set_mark.ensures.writes)

pub returns-then-n-self-clause-keeps : goal.returns-then-n-self-clause-keeps
returns-then-n-self-clause-keeps c = rw (← c.self.view_is) (keeps_beside _ _ _ _ _ _ _ (λ on. on) (λ j on. on))

pub returns-then-n-self-clause-answer : goal.returns-then-n-self-clause-answer
returns-then-n-self-clause-answer c = rw (← c.self.view_is, entry_in_leaf c.self.inside.is_ready c.self.inside.block c.self.inside.leaf.places c.self.inside.ids c.args.n c.if-n-self.true) c.set_mark.ensures.answer

pub invariant_of-self-2 : goal.invariant_of-self-2
invariant_of-self-2 c =
    let e = entry_in_tree c.self.inside.is_ready c.self.inside.block c.self.inside.leaf.places c.self.inside.ids c.args.n c.if-n-self.false in
    record {
      bound = c.self.invariant.bound;
      range = range_written c.self.inside.pid_max c.args.n _ _ _ c.self.invariant.range (written_tree c.self.inside.is_ready _ c.self.inside.leaf.places c.self.inside.ids c.set_mark-2.new.self c.args.n _ c.if-n-self.false c.set_mark-2.ensures.writes) (λ some. c.self.invariant.range c.args.n (rw e (marked_some c.args.m true _ some)));
      low = c.self.invariant.low;
      apart = apart_written _ _ _ c.args.n _ c.self.invariant.apart c.if-n-self.false c.set_mark-2.ensures.writes;
      unready = c.self.invariant.unready;
    }

pub returns-clause-writes : goal.returns-clause-writes
returns-clause-writes c =
    rw (← c.self.view_is, entry_in_tree c.self.inside.is_ready c.self.inside.block c.self.inside.leaf.places c.self.inside.ids c.args.n c.if-n-self.false) (written_tree _ _ _ _ _ _ _ c.if-n-self.false c.set_mark-2.ensures.writes)

pub returns-clause-keeps : goal.returns-clause-keeps
returns-clause-keeps c = rw (← c.self.view_is) (keeps_beside _ _ _ _ _ _ _ (λ on. on) c.set_mark-2.ensures.keeps)

pub returns-clause-answer : goal.returns-clause-answer
returns-clause-answer c = rw (← c.self.view_is, entry_in_tree c.self.inside.is_ready c.self.inside.block c.self.inside.leaf.places c.self.inside.ids c.args.n c.if-n-self.false) c.set_mark-2.ensures.answer
