-- The tree has nothing in the block of the leaf beside it: so two exchanges move entries only, and each number is read as before
use Rattle.std.proofs.Common.{ap, sym, ◌∙◌, ◌≡◌, ◌/◌, ℕ, None, true, arith, refl}
use Rattle.std.proofs.lemmas.Bool.{false≢true}
use Rattle.index_array.specs.Place.{entry_at, KeepsEntries}
use Rattle.cyclic_ids.specs.Ids.{places_beside}
use Rattle.cyclic_ids.proofs.Draws.{planned-same}
use Rattle.cyclic_ids.proofs.Beside.{in_leaf, same_tree, keeps_beside, emptied, entries_moved, prepared_moved, apart_moved}
use Rattle.cyclic_ids.proofs.CyclicIds.change_leaf.Goals as goal
use Rattle.cyclic_ids.proofs.CyclicIds.change_leaf.Goals.{After-make_room, After-exchange_leaf-2}

-- the nodes that were made changed no entry
made : (c : After-make_room) → KeepsEntries (places_beside c.self.inside.is_ready c.self.inside.block c.self.inside.leaf.places c.self.inside.ids) (places_beside c.self.inside.is_ready c.self.inside.block c.self.inside.leaf.places c.make_room.new.ids)
made c = same_tree _ _ _ _ _ _ c.make_room.ensures.entries

-- and the tree has no entry in the leaf's block
apart : (c : After-make_room) (n : ℕ) → n / 64 ≡ c.self.inside.block → entry_at c.make_room.new.ids n ≡ None
apart c n here = c.make_room.ensures.entries n ∙ c.self.invariant.apart n here

-- nor did the two exchanges
moved : (c : After-exchange_leaf-2) → KeepsEntries (places_beside c.self.inside.is_ready c.self.inside.block c.self.inside.leaf.places c.self.inside.ids) (places_beside true (c.args.n / 64) c.exchange_leaf-2.new.leaf.places c.exchange_leaf-2.new.self)
moved c n = entries_moved c.self.inside.is_ready _ _ _ _ _ _ _ _ c.exchange_leaf.ensures.swaps c.exchange_leaf-2.ensures.swaps n ∙ same_tree _ _ _ _ _ _ c.make_room.ensures.entries n

pub invariant_of-self : goal.invariant_of-self
invariant_of-self c =
    let at = (goal.at.invariant_of-self c).After-make_room in
    record {
      bound = c.self.invariant.bound;
      range = λ n some. c.self.invariant.range n (λ none. some (made at n ∙ none));
      low = c.self.invariant.low;
      apart = apart at;
      unready = c.self.invariant.unready;
    }

pub returns-in_err-make_room-clause-entries : goal.returns-in_err-make_room-clause-entries
returns-in_err-make_room-clause-entries c = rw (← c.self.view_is) (made (goal.at.returns-in_err-make_room-clause-entries c).After-make_room)

pub returns-in_err-make_room-clause-keeps : goal.returns-in_err-make_room-clause-keeps
returns-in_err-make_room-clause-keeps c = rw (← c.self.view_is) (keeps_beside _ _ _ _ _ _ _ (λ on. on) c.make_room.ensures.keeps)

pub returns-in_err-make_room-clause-planned : goal.returns-in_err-make_room-clause-planned
returns-in_err-make_room-clause-planned c = rw (← c.self.view_is) (planned-same _ _ _ _ (made (goal.at.returns-in_err-make_room-clause-planned c).After-make_room))

pub exchange_leaf-requires-2 : goal.exchange_leaf-requires-2
exchange_leaf-requires-2 c = λ _ k below. emptied c.self.inside.block _ _ _ _ c.exchange_leaf.ensures.swaps (apart (goal.at.exchange_leaf-requires-2 c).After-make_room) k below

pub invariant_of-self-2 : goal.invariant_of-self-2
invariant_of-self-2 c =
    let at = goal.at.invariant_of-self-2 c in
    let within = rw (← c.self.view_is) at c.requires in
    record {
      bound = c.self.invariant.bound;
      range = λ n some. c.self.invariant.range n (λ none. some (moved at.After-exchange_leaf-2 n ∙ none));
      low = omega (arith, within, c.self.invariant.bound.1);
      apart = apart_moved c.self.inside.is_ready _ _ _ _ _ _ _ _ c.exchange_leaf.ensures.swaps c.exchange_leaf-2.ensures.swaps (apart at.After-make_room);
      unready = λ off. absurd (false≢true (sym off));
    }

pub returns-clause-ok : goal.returns-clause-ok
returns-clause-ok c = ap (λ p. p.prepared) (in_leaf _ _ _ _ c.args.n refl)

pub returns-clause-entries : goal.returns-clause-entries
returns-clause-entries c = rw (← c.self.view_is) (moved (goal.at.returns-clause-entries c).After-exchange_leaf-2)

pub returns-clause-keeps : goal.returns-clause-keeps
returns-clause-keeps c =
    rw (← c.self.view_is) (λ n on. prepared_moved _ _ _ _ _ _ _ _ _ c.exchange_leaf.ensures.swaps c.exchange_leaf-2.ensures.swaps c.in_ok-make_room.ensures.ok c.exchange_leaf.ensures.keeps c.exchange_leaf-2.ensures.keeps n (keeps_beside _ _ _ _ _ _ _ (λ ready. ready) c.make_room.ensures.keeps n on))

pub returns-clause-planned : goal.returns-clause-planned
returns-clause-planned c = rw (← c.self.view_is) (planned-same _ _ _ _ (moved (goal.at.returns-clause-planned c).After-exchange_leaf-2))
