use Rattle.std.proofs.Common.{◌≡◌, ◌∙◌, sym, ap, true, arith}
use Rattle.std.proofs.lemmas.Bool.{false≢true}
use Rattle.index_array.specs.Place.{index_count, entry_at, is_marked}
use Rattle.cyclic_ids.specs.Ids.{places_beside}
use Rattle.cyclic_ids.proofs.Beside.{entry_in_leaf, entry_in_tree}
use Rattle.cyclic_ids.proofs.Searches.{found_at_once, found_first}
use Rattle.cyclic_ids.proofs.CyclicIds.next_marked.Goals as goal

pub returns-in-Some : goal.returns-in-Some
returns-in-Some c =
    let low = c.self.invariant.low in
    rw (← c.self.view_is) (found_first (λ k. is_marked c.args.m (entry_at (places_beside c.self.inside.is_ready c.self.inside.block c.self.inside.leaf.places c.self.inside.ids) k)) (λ k. is_marked c.args.m (entry_at c.self.inside.leaf.places k)) (λ k. is_marked c.args.m (entry_at c.self.inside.ids k)) c.self.inside.block (λ k e. ap (is_marked c.args.m) (entry_in_leaf c.self.inside.is_ready c.self.inside.block c.self.inside.leaf.places c.self.inside.ids k e)) (λ k e. ap (is_marked c.args.m) (entry_in_tree c.self.inside.is_ready c.self.inside.block c.self.inside.leaf.places c.self.inside.ids k e)) c.args.from index_count c.in-Some.slot c.if-from-self.true (omega (arith, low)) c.in-Some.ensures)

-- a number that has the mark is in use, and so in range
pub returns-then-has_mark : goal.returns-then-has_mark
returns-then-has_mark c =
    let i = c.self.inside in
    let off = c.if-from-self.false in
    let on : is_marked c.args.m (entry_at i.ids c.args.from) ≡ true = sym c.has_mark.ensures ∙ c.if-has_mark.true in
    let shown = entry_in_tree i.is_ready i.block i.leaf.places i.ids c.args.from off in
    let low = c.self.invariant.range c.args.from (λ none. false≢true (ap (is_marked c.args.m) (sym (sym shown ∙ none)) ∙ on)) in
    let bound = c.self.invariant.bound in
    rw (← c.self.view_is) (found_at_once (λ k. is_marked c.args.m (entry_at (places_beside i.is_ready i.block i.leaf.places i.ids) k)) (λ k. is_marked c.args.m (entry_at i.leaf.places k)) (λ k. is_marked c.args.m (entry_at i.ids k)) i.block (λ k e. ap (is_marked c.args.m) (entry_in_leaf i.is_ready i.block i.leaf.places i.ids k e)) (λ k e. ap (is_marked c.args.m) (entry_in_tree i.is_ready i.block i.leaf.places i.ids k e)) c.args.from index_count off (omega (arith, low.1, bound.1)) on)
