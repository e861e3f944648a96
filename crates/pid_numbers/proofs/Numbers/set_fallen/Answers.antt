-- What falls has a number in use, and all in it has a flag too
use Rattle.pid_numbers.proofs.Words.{Some, [], ap, false, option_map, refl, subst, sym, true, ℕ, ◌<◌, ◌||◌, ◌∙◌, ◌≡◌, length, option_map_or, slice_get}
use Rattle.pid_numbers.proofs.Words.{IsPathTree, fell, node_in, way, number_of, number_in, bound_on, cursor_on, entry_on, leads, namespace_of, ident_at, is_some}
use Rattle.pid_numbers.specs.Restore.{is_flagged, fallen_if}
use Rattle.pid_numbers.proofs.Views as views
use Rattle.pid_numbers.proofs.Ties as ties
use Rattle.pid_numbers.proofs.Sweeps as sweeps
use Rattle.pid_numbers.proofs.Marks as marks
use Rattle.pid_numbers.proofs.Numbers.set_fallen.Goals as goal

pub invariant_of-self : goal.invariant_of-self
invariant_of-self c =
    let k = c.self.invariant in
    let x = c.self.inside in
    let old = c.self.inside.tree.nodes in
    let new = c.mark_all.new.tree.nodes in
    let ids = c.self.inside.ids.items in
    let flags = c.args.flags.now in
    let b = k.whole.numbering in
    let nodes = c.mark_all.ensures.nodes in
    let ways : (s : ℕ) → way new s ≡ way old s = (λ s. ap (λ o. option_map_or (λ t. t.path) o []) (nodes s) ∙ marks.path (is_flagged flags s) (node_in old s)) in
    let fell_is : (s : ℕ) → 0 < length (way old s) → fell new s ≡ (fell old s || is_flagged flags s) =
    (λ s some. ap (λ o. option_map_or (λ t. t.fallen) o false) (nodes s) ∙ marks.falls (is_flagged flags s) (node_in old s) (let z = views.there-of old s some in ap is_some z.1)) in
    let some : (s : ℕ) → fell new s ≡ true → 0 < length (way old s) =
    (λ s e. k.some s (marks.there (is_flagged flags s) (node_in old s) (sym (ap (λ o. option_map_or (λ t. t.fallen) o false) (nodes s)) ∙ e))) in
    let inner : (s outer : ℕ) → slice_get (way old s) 1 ≡ Some outer → is_flagged flags outer ≡ true → is_flagged flags s ≡ true =
    (λ s outer at on. c.requires.may.inner s outer (ap (λ p. slice_get p 1) (views.path-of x c.self.view_is s) ∙ at) on) in
    let held : (s : ℕ) → 0 < length (way old s) → is_flagged flags s ≡ true → (n : ℕ) × (i : ℕ) × (leads (entry_on ids) s n ≡ Some i) =
    (λ s there on.
    let z = views.there-of old s there in
    let u = c.requires.may.held s (ap is_some (views.namespace_is x c.self.view_is s ∙ ap (option_map (namespace_of (cursor_on ids s))) z.1)) on in
    let n : number_in (way old) s (ident_at x.idents u.0) ≡ Some u.1 = sym (views.number_is x.pid_max x.tree ids x.idents u.0 s) ∙ ap (λ b. number_of b u.0 s) c.self.view_is ∙ u.2 in
    (u.1, u.0, b.tied.kept s u.1 u.0 n)) in
    record {
      whole = record {
        numbering = ties.numbering-moved x.pid_max (way old) (way new) (entry_on ids) (bound_on ids) (bound_on ids) (ident_at x.idents) b (subst IsPathTree (λ i s. sym (ways s) i) b.tree) b.bounds (λ i u is. ways u.space);
        fallen = sweeps.fallen-kept (way old) (way new) (entry_on ids) (entry_on ids) (fell new) (fell new)
            (marks.fallen-marked (way old) b.tree flags inner (entry_on ids) (fell old) (fell new) k.whole.fallen c.requires.may.root fell_is some held)
            ways (λ s. refl) (λ s n i led. (i, led));
      };
      some = c.laws.ensures.some;
      listed = c.laws.ensures.listed;
      count = k.count ∙ sym c.mark_all.ensures.count;
    }

pub returns-clause-namespaces : goal.returns-clause-namespaces
returns-clause-namespaces c s =
    let cursor = cursor_on c.self.inside.ids.items s in
    let flag = is_flagged c.args.flags.now s in
    views.namespace-at (cursor_on c.self.inside.ids.items) c.mark_all.new.tree.nodes s ∙ ap (option_map (namespace_of cursor)) (c.mark_all.ensures.nodes s) ∙ marks.seen flag cursor (node_in c.self.inside.tree.nodes s)
    ∙ ap (option_map (fallen_if flag)) (sym (views.namespace_is c.self.inside c.self.view_is s))
