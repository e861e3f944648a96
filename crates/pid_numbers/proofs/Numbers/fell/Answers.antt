-- What falls has a number in use: that of the task whose own namespace it is, or that by which it had fallen before
use Rattle.pid_numbers.proofs.Words.{Bool, List, Option, Some, [], ap, arith, false, option_map, refl, subst, sym, true, ℕ, ◌||◌, ◌∙◌, ◌≡◌, option_map_or}
use Rattle.pid_numbers.proofs.Words.{Entry, IsPathTree, Node, fell, felled_within, node_in, way, contains, HasOwnTask, Identifier, Numbering, fallen_within, number_in}
use Rattle.pid_numbers.proofs.Words.{has_fallen_at, identifier_at, path_at, AreFallen, IsTied, bound_on, cursor_on, entry_on, leads, namespace_of, numbering_of}
use Rattle.pid_numbers.proofs.Words.{ident_at}
use Rattle.pid_numbers.specs.declared.Numbers.TheInside.{Inside}
use Rattle.ns_tree.proofs.Paths as paths
use Rattle.pid_numbers.proofs.Views as views
use Rattle.pid_numbers.proofs.Ties as ties
use Rattle.pid_numbers.proofs.Sweeps as sweeps
use Rattle.pid_numbers.proofs.Numbers.fell.Goals as goal

falls : (outer : ℕ) (o : Option Node) → option_map_or (λ t. t.fallen) (option_map (felled_within outer) o) false ≡ (option_map_or (λ t. t.fallen) o false || contains (option_map_or (λ t. t.path) o []) outer)
falls outer o = grind arith

-- it keeps its cursor
seen : (outer cursor : ℕ) (o : Option Node) → option_map (namespace_of cursor) (option_map (felled_within outer) o) ≡ option_map (fallen_within outer) (option_map (namespace_of cursor) o)
seen outer cursor o = grind arith

-- some task's own namespace is seen as such in the numbering
homes : (x : Inside) {b : Numbering} → numbering_of x.pid_max x.tree x.ids.items x.idents ≡ b → (space : ℕ)
    → ((s : ℕ) → contains (path_at b s) space ≡ true → has_fallen_at b s ≡ false → HasOwnTask (identifier_at b) s)
    → (s : ℕ) → contains (way x.tree.nodes s) space ≡ true → fell x.tree.nodes s ≡ false → HasOwnTask (ident_at x.idents) s
homes x view space all s inside stands =
    let t = all s (ap (λ p. contains p space) (views.path-of x view s) ∙ inside) (views.fell_is x view s ∙ stands) in
    record { key = t.key; identifier = t.identifier; named = sym (views.identifier_is x view t.key) ∙ t.named; own = t.own; used = t.used }

-- some task's own namespace has a number in use
own-number : (ways : ℕ → List ℕ) (names : ℕ → Option Identifier) (at : ℕ → ℕ → Option (Entry ℕ)) → IsTied ways names (leads at) → (s : ℕ) → contains (ways s) s ≡ true → HasOwnTask names s
    → (n : ℕ) × (i : ℕ) × (leads at s n ≡ Some i)
own-number ways names at tied s inside t =
    let some = sweeps.beside-at s (ways t.identifier.space) t.identifier.numbers (tied.full t.key t.identifier t.named) (ap (λ z. contains (ways z) s) t.own ∙ inside) in
    (some.0, t.key, tied.kept s some.0 t.key (ap (number_in ways s) t.named ∙ some.1))

-- each namespace inside has a number in use
still-used : (ways : ℕ → List ℕ) (names : ℕ → Option Identifier) (at : ℕ → ℕ → Option (Entry ℕ)) → IsPathTree ways → IsTied ways names (leads at) → (fell : ℕ → Bool) → AreFallen ways at fell → (space : ℕ)
    → ((s : ℕ) → contains (ways s) space ≡ true → fell s ≡ false → HasOwnTask names s)
    → (s : ℕ) → contains (ways s) space ≡ true → (b : Bool) → fell s ≡ b → (n : ℕ) × (i : ℕ) × (leads at s n ≡ Some i)
still-used ways names at tree tied fell fallen space all s inside true is = fallen.held s is
still-used ways names at tree tied fell fallen space all s inside false is = own-number ways names at tied s (paths.own-in ways tree s (paths.held-some (ways s) space inside)) (all s inside is)

pub invariant_of-self : goal.invariant_of-self
invariant_of-self c =
    let old = c.self.inside.tree.nodes in
    let new = c.fell.new.self.nodes in
    let at = entry_on c.self.inside.ids.items in
    let bound = bound_on c.self.inside.ids.items in
    let names = ident_at c.self.inside.idents in
    let b = c.self.invariant.whole.numbering in
    let f = c.self.invariant.whole.fallen in
    let ways : (s : ℕ) → way new s ≡ way old s = λ s. ap (λ o. option_map_or (λ t. t.path) o []) (c.fell.ensures.nodes s) ∙ views.map_or-map (λ t. t.path) (felled_within c.args.space) (node_in old s) [] in
    let used = still-used (way old) names at b.tree b.tied (fell old) f c.args.space (homes c.self.inside c.self.view_is c.args.space c.requires.homes) in
    let fallen = sweeps.fallen-fell c.self.inside.pid_max (way old) at bound names b (fell old) (fell new) f c.args.space c.requires.inner
    (λ s. ap (λ o. option_map_or (λ t. t.fallen) o false) (c.fell.ensures.nodes s) ∙ falls c.args.space (node_in old s))
    (λ s within. used s within (fell old s) refl) in
    record {
      whole = record {
        numbering = ties.numbering-moved c.self.inside.pid_max (way old) (way new) at bound bound names b (subst IsPathTree (λ i s. sym (ways s) i) b.tree) b.bounds (λ i u is. ways u.space);
        fallen = sweeps.fallen-kept (way old) (way new) at at (fell new) (fell new) fallen ways (λ s. refl) (λ s n i led. (i, led));
      };
      some = c.laws.ensures.some;
      listed = c.laws.ensures.listed;
      count = c.self.invariant.count ∙ sym c.fell.ensures.count;
    }

pub returns-clause-namespaces : goal.returns-clause-namespaces
returns-clause-namespaces c s =
    let cursor = cursor_on c.self.inside.ids.items s in
    views.namespace-at (cursor_on c.self.inside.ids.items) c.fell.new.self.nodes s ∙ ap (option_map (namespace_of cursor)) (c.fell.ensures.nodes s) ∙ seen c.args.space cursor (node_in c.self.inside.tree.nodes s)
    ∙ ap (option_map (fallen_within c.args.space)) (sym (views.namespace_is c.self.inside c.self.view_is s))
