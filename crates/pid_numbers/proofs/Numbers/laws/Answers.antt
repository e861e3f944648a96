-- The invariant speaks of the tree and of numbers by key, the contract of namespaces as they are seen: each law is read through the view
use Rattle.pid_numbers.proofs.Words.{◌≡◌, ◌∙◌, sym, ap, subst, ℕ, ◌<◌, ◌≤◌, List, length, get_or, drop, Some, unwrap_or, AllByRecursion, id_in, node_in, way}
use Rattle.pid_numbers.proofs.Words.{fell, contains, Numbering, id_at, number_of, path_at, has_fallen_at, entry_on, leads}
use Rattle.id_slab.specs.Ids.{key_of, AreRising}
use Rattle.ns_tree.proofs.Orders as orders
use Rattle.ns_tree.proofs.Paths as paths
use Rattle.pid_types.specs.Settings.{HasGoodPidMax}
use Rattle.pid_numbers.proofs.Views as views
use Rattle.pid_numbers.proofs.Drops as drops
use Rattle.pid_numbers.proofs.Numbers.laws.Goals as goal

pub returns : goal.returns
returns c =
    let max = c.self.inside.pid_max in
    let tree = c.self.inside.tree in
    let ids = c.self.inside.ids.items in
    let ways = way tree.nodes in
    let idents = c.self.inside.idents in
    let b = c.self.invariant.whole.numbering in
    let value = c.args.self.now in
    let path = views.path-of c.self.inside c.self.view_is in
    let led : (i s n : ℕ) → number_of value i s ≡ Some n → leads (entry_on ids) s n ≡ Some i = λ i s n h.
    b.tied.kept s n i (sym (views.number_is max tree ids idents i s) ∙ ap (λ z. number_of z i s) c.self.view_is ∙ h) in
    let fallen : (s : ℕ) → has_fallen_at value s ≡ fell tree.nodes s = views.fell_is c.self.inside c.self.view_is in
    let id : (s : ℕ) → id_at value s ≡ id_in tree.nodes s = views.id_is c.self.inside c.self.view_is in
    let led_to : (s i : ℕ) → id_at value s ≡ Some i → key_of tree.order i ≡ Some s = λ s i e. c.self.invariant.listed.listed s i (sym (id s) ∙ e) in
    record {
      distinct = λ i j s n x y. ap (λ o. unwrap_or o 0) (sym (led i s n x) ∙ led j s n y);
      range = λ i s n h. (let r = b.range s n i (led i s n h) in (r.0, subst (λ m. n < m) (ap (λ z. z.pid_max) c.self.view_is) r.1));
      full = λ i u h.
          (let e = sym (views.identifier_is c.self.inside c.self.view_is i) ∙ h in (b.tied.some i u e, b.tied.full i u e ∙ ap length (sym (path u.space))));
      good = subst HasGoodPidMax (ap (λ z. z.pid_max) c.self.view_is) b.good;
      root = path 0 ∙ b.tree.root;
      own = λ s some. ap (λ l. get_or l 0 0) (path s) ∙ paths.own-first ways b.tree s (subst (λ (l : List ℕ). 0 < length l) (path s) some);
      around = subst (λ (p : ℕ → List ℕ). (s j : ℕ) → j < length (p s) → p (get_or (p s) j 0) ≡ drop j (p s)) (λ i s. sym (path s) i) (λ s j lt. paths.at-path ways (ways s) (b.tree.paths s) j lt);
      some = λ s i e. subst (λ (l : List ℕ). 0 < length l) (sym (path s)) (c.self.invariant.some s (orders.id-there (node_in tree.nodes s) i (sym (id s) ∙ e)));
      ends = λ s some. ap (λ l. contains l 0) (path s) ∙ b.tree.ends s (subst (λ (l : List ℕ). 0 < length l) (path s) some);
      held = λ s e. drops.held-taken max tree ids idents value c.self.view_is b c.self.invariant.whole.fallen s (sym (fallen s) ∙ e);
      few = λ s. subst (λ (l : List ℕ). length l ≤ 33) (sym (path s)) (b.tree.few s);
      fallen = λ s j lt e.
          fallen s ∙ c.self.invariant.whole.fallen.inner s j (subst (λ (l : List ℕ). j < length l) (path s) lt) (ap (λ p. fell tree.nodes (get_or p j 0)) (sym (path s)) ∙ sym (fallen (get_or (path_at value s) j 0)) ∙ e);
      ids = λ s t i a b. ap (λ o. unwrap_or o 0) (sym (led_to s i a) ∙ led_to t i b);
      listed = λ s i e. ap (λ b. key_of b.order i) (sym c.self.view_is) ∙ led_to s i e;
      each = subst (λ order. AllByRecursion (λ p. id_at value p.1 ≡ Some p.0) order) (ap (λ (b : Numbering). b.order) c.self.view_is) (orders.all-weaken (λ p. id_in tree.nodes p.1 ≡ Some p.0) (λ p. id_at value p.1 ≡ Some p.0) (λ p e. id p.1 ∙ e) tree.order c.self.invariant.listed.each);
      rising = subst (λ (b : Numbering). AreRising b.order) c.self.view_is c.laws.ensures.rising;
    }
