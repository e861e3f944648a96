-- The number's block says where its room is; a write in the tree is outside the leaf's block, in which the tree must stay empty
use Rattle.std.proofs.Common.{ap, sym, ◌∙◌, ◌≡◌, ◌<◌, true, arith, rules}
use Rattle.std.proofs.lemmas.Bool.{false≢true}
use Rattle.pid_types.proofs.LeastFree.{draw-Some}
use Rattle.cyclic_ids.proofs.Draws.{drawn-range, range_written}
use Rattle.cyclic_ids.proofs.Beside.{in_leaf, in_tree, written_leaf, written_tree, apart_written, keeps_beside}
use Rattle.cyclic_ids.proofs.CyclicIds.commit_marked.Goals as goal

pub overflow_add-next : goal.overflow_add-next
overflow_add-next c =
    let planned = rw (← c.self.view_is) at c.requires.planned in
    let below : c.args.n < c.self.inside.pid_max = (draw-Some _ _ _ _ planned).2 in
    omega (arith, below, c.self.invariant.bound.1)

pub store_prepared-requires : goal.store_prepared-requires
store_prepared-requires c =
    let prepared = rw (← c.self.view_is) at c.requires.prepared in
    sym (ap (λ p. p.prepared) (in_tree c.self.inside.is_ready c.self.inside.block c.self.inside.leaf.places c.self.inside.ids c.args.n c.if-n-block.false)) ∙ prepared

pub invariant_of-self : goal.invariant_of-self
invariant_of-self c =
    let planned = rw (← c.self.view_is) at c.requires.planned in
    let prepared = rw (← c.self.view_is) at c.requires.prepared in
    let ready : c.self.inside.is_ready ≡ true = sym (ap (λ p. p.prepared) (in_leaf c.self.inside.is_ready c.self.inside.block c.self.inside.leaf.places c.self.inside.ids c.args.n c.if-n-block.true)) ∙ prepared in
    record {
      bound = c.self.invariant.bound;
      range = range_written c.self.inside.pid_max c.args.n _ _ _ c.self.invariant.range (written_leaf _ c.self.inside.is_ready _ c.self.inside.leaf.places c.store.new.self.places c.self.inside.ids c.args.n _ c.if-n-block.true c.store.ensures) (λ _. drawn-range c.self.inside.pid_max _ _ c.args.n planned);
      low = c.self.invariant.low;
      apart = c.self.invariant.apart;
      unready = λ off. absurd (false≢true (sym off ∙ ready));
    }

pub invariant_of-self-else-n-block : goal.invariant_of-self-else-n-block
invariant_of-self-else-n-block c =
    let planned = rw (← c.self.view_is) at c.requires.planned in
    record {
      bound = c.self.invariant.bound;
      range = range_written c.self.inside.pid_max c.args.n _ _ _ c.self.invariant.range (written_tree c.self.inside.is_ready _ c.self.inside.leaf.places c.self.inside.ids c.store_prepared.new.self c.args.n _ c.if-n-block.false c.store_prepared.ensures.writes) (λ _. drawn-range c.self.inside.pid_max _ _ c.args.n planned);
      low = c.self.invariant.low;
      apart = apart_written _ _ _ c.args.n _ c.self.invariant.apart c.if-n-block.false c.store_prepared.ensures.writes;
      unready = c.self.invariant.unready;
    }

pub returns-then-n-block-clause-writes : goal.returns-then-n-block-clause-writes
returns-then-n-block-clause-writes c = rw (← c.self.view_is) (written_leaf _ _ _ _ _ _ _ _ c.if-n-block.true c.store.ensures)

pub returns-then-n-block-clause-keeps : goal.returns-then-n-block-clause-keeps
returns-then-n-block-clause-keeps c = rw (← c.self.view_is) (keeps_beside _ _ _ _ _ _ _ (λ on. on) (λ j on. on))

pub returns-else-n-block-clause-writes : goal.returns-else-n-block-clause-writes
returns-else-n-block-clause-writes c = rw (← c.self.view_is) (written_tree _ _ _ _ _ _ _ c.if-n-block.false c.store_prepared.ensures.writes)

pub returns-else-n-block-clause-keeps : goal.returns-else-n-block-clause-keeps
returns-else-n-block-clause-keeps c = rw (← c.self.view_is) (keeps_beside _ _ _ _ _ _ _ (λ on. on) c.store_prepared.ensures.keeps)

pub returns-then-n-block-clause-cursor : goal.returns-then-n-block-clause-cursor
returns-then-n-block-clause-cursor c = search rules
