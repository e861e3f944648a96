use Rattle.std.proofs.Common.{ap, sym, subst, ◌≡◌, ◌∙◌, ◌≤◌, ◌<◌, ◌+◌, ℕ, Some, length, arith}
use Rattle.ns_tree.specs.Tree.{grown, node_in}
use Rattle.ns_tree.specs.Places.{Placed, node_of, nodes_of, first}
use Rattle.ns_tree.proofs.Placed as placed
use Rattle.ns_tree.proofs.places.Places.insert_reserved.Goals as goal
use Rattle.ns_tree.proofs.places.Places.insert_reserved.Goals.{Else-key-self, After-insert_reserved-key}

-- what is seen with so many keys
abbrev IsAdded : After-insert_reserved-key → ℕ → Type 0
IsAdded c more = placed.IsSeen c.self.inside.keys (first c.self.inside.keys (nodes_of c.self.inside.slab.slots)) more (first more (nodes_of c.insert_reserved-key.new.self.slots)) c.insert_reserved-key.result (Some (node_of c.args.space))

added : (c : After-insert_reserved-key) (more : ℕ) → c.self.inside.keys ≤ more → c.insert_reserved-key.result < more → IsAdded c more
added c more le lt =
    let u = c.insert_reserved-key.ensures.updates in
    placed.seen c.self.inside.keys c.self.inside.slab c.self.invariant more c.insert_reserved-key.new.self c.insert_reserved-key.result (Some c.args.space) u
    (placed.past-kept c.self.inside.keys c.self.inside.slab c.self.invariant more c.insert_reserved-key.new.self c.insert_reserved-key.result (Some c.args.space) u le lt)

-- the key is the one that comes next
key_is : (c : After-insert_reserved-key) → c.insert_reserved-key.result ≡ c.args.self.now.next
key_is c = c.insert_reserved-key.ensures.key ∙ ap (λ (s : Placed). s.next) c.self.view_is

given : (c : Else-key-self) → c.insert_reserved-key.result < c.self.inside.keys
given c =
    let near = subst (λ (s : Placed). s.next ≤ length s.nodes) (sym c.self.view_is) c.requires.near in
    let key = c.insert_reserved-key.ensures.key in
    let n = placed.count c.self.inside.keys c.self.inside.slab in
    let other = c.if-key-self.false in
    omega (arith, near, key, n, other)

pub invariant_of-self-else-key-self : goal.invariant_of-self-else-key-self
invariant_of-self-else-key-self c =
    placed.past-kept c.self.inside.keys c.self.inside.slab c.self.invariant c.self.inside.keys c.insert_reserved-key.new.self c.insert_reserved-key.result (Some c.args.space) c.insert_reserved-key.ensures.updates (omega arith) (given c)

pub returns-then-key-self-clause-here : goal.returns-then-key-self-clause-here
returns-then-key-self-clause-here c =
    let s = added (goal.at.returns-then-key-self-clause-here c).After-insert_reserved-key (c.self.inside.keys + 1) (omega arith) (omega (arith, c.if-key-self.true)) in
    ap (node_in (first (c.self.inside.keys + 1) (nodes_of c.insert_reserved-key.new.self.slots))) (sym (key_is (goal.at.returns-then-key-self-clause-here c).After-insert_reserved-key)) ∙ s.here

pub returns-then-key-self-clause-others : goal.returns-then-key-self-clause-others
returns-then-key-self-clause-others c k differs =
    let s = added (goal.at.returns-then-key-self-clause-others c).After-insert_reserved-key (c.self.inside.keys + 1) (omega arith) (omega (arith, c.if-key-self.true)) in
    s.others k (λ same. differs (same ∙ key_is (goal.at.returns-then-key-self-clause-others c).After-insert_reserved-key)) ∙ ap (λ (t : Placed). node_in t.nodes k) c.self.view_is

pub returns-then-key-self-clause-count : goal.returns-then-key-self-clause-count
returns-then-key-self-clause-count c =
    let s = added (goal.at.returns-then-key-self-clause-count c).After-insert_reserved-key (c.self.inside.keys + 1) (omega arith) (omega (arith, c.if-key-self.true)) in
    s.now ∙ sym (placed.grown-next c.self.inside.keys) ∙ ap (grown c.self.inside.keys) (sym c.if-key-self.true ∙ key_is (goal.at.returns-then-key-self-clause-count c).After-insert_reserved-key)
    ∙ ap (λ n. grown n c.args.self.now.next) (sym s.was ∙ ap (λ (t : Placed). length t.nodes) c.self.view_is)

pub returns-else-key-self-clause-here : goal.returns-else-key-self-clause-here
returns-else-key-self-clause-here c =
    let s = added (goal.at.returns-else-key-self-clause-here c).After-insert_reserved-key c.self.inside.keys (omega arith) (given (goal.at.returns-else-key-self-clause-here c).Else-key-self) in
    ap (node_in (first c.self.inside.keys (nodes_of c.insert_reserved-key.new.self.slots))) (sym (key_is (goal.at.returns-else-key-self-clause-here c).After-insert_reserved-key)) ∙ s.here

pub returns-else-key-self-clause-others : goal.returns-else-key-self-clause-others
returns-else-key-self-clause-others c k differs =
    let s = added (goal.at.returns-else-key-self-clause-others c).After-insert_reserved-key c.self.inside.keys (omega arith) (given (goal.at.returns-else-key-self-clause-others c).Else-key-self) in
    s.others k (λ same. differs (same ∙ key_is (goal.at.returns-else-key-self-clause-others c).After-insert_reserved-key)) ∙ ap (λ (t : Placed). node_in t.nodes k) c.self.view_is

pub returns-else-key-self-clause-count : goal.returns-else-key-self-clause-count
returns-else-key-self-clause-count c =
    let lt = given (goal.at.returns-else-key-self-clause-count c).Else-key-self in
    let s = added (goal.at.returns-else-key-self-clause-count c).After-insert_reserved-key c.self.inside.keys (omega arith) lt in
    s.now ∙ sym (placed.grown-given c.self.inside.keys c.insert_reserved-key.result lt) ∙ ap (grown c.self.inside.keys) (key_is (goal.at.returns-else-key-self-clause-count c).After-insert_reserved-key)
    ∙ ap (λ n. grown n c.args.self.now.next) (sym s.was ∙ ap (λ (t : Placed). length t.nodes) c.self.view_is)
