-- The namespace takes a key that none had, and no number in it is in use
use Rattle.pid_numbers.proofs.Words.{◌≡◌, ◌≢◌, ◌∙◌, ◌∷◌, ℕ, sym, ap, arith, length, Some, IsSome, Option, true, false, option_map, option_and_then, refl, []}
use Rattle.pid_numbers.proofs.Words.{cases_eq, slice_get, option_map_or, grown, new_node, node_in, way, fell, Entry, entry_at, Namespace, namespace_at, namespace_of, cursor_on, entry_on, bound_on, ident_at}
use Rattle.std.proofs.Common.{inl, inr}
use Rattle.pid_numbers.proofs.Views as views
use Rattle.pid_numbers.proofs.Ties as ties
use Rattle.pid_numbers.proofs.Begins as begins
use Rattle.pid_numbers.proofs.Sweeps as sweeps
use Rattle.pid_numbers.proofs.Numbers.add_space.Goals as goal

-- a namespace that stands is there
standing : (o : Option Namespace) → option_map_or (λ t. t.fallen) o true ≡ false → IsSome o × (option_map_or (λ t. t.fallen) o false ≡ false)
standing o e = grind arith

pub add-requires-clause-there : goal.add-requires-clause-there
add-requires-clause-there c = views.there c.self.inside c.self.view_is c.args.parent (standing (namespace_at c.args.self.now c.args.parent) c.requires.stands).0

pub add-requires-clause-shallow : goal.add-requires-clause-shallow
add-requires-clause-shallow c =
    let l = ap length (views.path-of c.self.inside c.self.view_is c.args.parent) in
    let s = c.requires.shallow in
    omega (arith, l, s)

pub returns-clause-next : goal.returns-clause-next
returns-clause-next c = grind arith

pub invariant_of-self : goal.invariant_of-self
invariant_of-self c = grind arith

pub invariant_of-self-2 : goal.invariant_of-self-2
invariant_of-self-2 c =
    let k = c.self.invariant in
    let add = c.in_ok-key.ensures in
    let key = c.in_ok-key.key in
    let parent = c.args.parent in
    let old = c.self.inside.tree.nodes in
    let new = c.add.new.self.nodes in
    let ids = c.self.inside.ids.items in
    let ids' = c.put_ids.new.all.items in
    let names = ident_at c.self.inside.idents in
    let was : way old key ≡ [] = ap (λ o. option_map_or (λ t. t.path) o []) add.vacant in
    let now : way new key ≡ key ∷ way old parent = ap (λ o. option_map_or (λ t. t.path) o []) add.made in
    let others : (s : ℕ) → s ≢ key → way new s ≡ way old s = (λ s m. ap (λ o. option_map_or (λ t. t.path) o []) (add.others s m)) in
    let same : (s : ℕ) → s ≢ key → slice_get ids' s ≡ slice_get ids s = (λ s m. c.put_ids.ensures.others s m ∙ ap (λ l. slice_get l s) c.in_ok-try_reserve.ensures.items) in
    let entries : (s n : ℕ) → entry_on ids' s n ≡ entry_on ids s n = (λ s n. elim (cases_eq s key) [
      | inl is ↦
          ap (λ k. entry_on ids' k n) is ∙ ap (option_and_then (λ t. entry_at t.places n)) c.put_ids.ensures.here ∙ c.new-ids.ensures.empty n
          ∙ sym (ap (λ k. entry_on ids k n) is ∙ sweeps.vacant-empty c.self.inside.pid_max (way old) (entry_on ids) (bound_on ids) names k.whole.numbering key n was)
      | inr another ↦ ap (option_and_then (λ t. entry_at t.places n)) (same s another)
    ]) in
    let bounds : (s m : ℕ) → bound_on ids' s ≡ Some m → m ≡ c.self.inside.pid_max = (λ s m e. elim (cases_eq s key) [
      | inl is ↦
          let z : Some m ≡ Some c.self.inside.pid_max = sym e ∙ ap (bound_on ids') is ∙ ap (option_map (λ t. t.pid_max)) c.put_ids.ensures.here ∙ ap Some c.new-ids.ensures.pid_max in
          ap (λ o. option_map_or (λ x. x) o m) z
      | inr another ↦ k.whole.numbering.bounds s m (ap (option_map (λ t. t.pid_max)) (sym (same s another)) ∙ e)
    ]) in
    record {
      whole = record {
        numbering = ties.numbering-same c.self.inside.pid_max (way new) (entry_on ids) (entry_on ids') (bound_on ids') (bound_on ids') names names
            (begins.numbering-added c.self.inside.pid_max (way old) (way new) (entry_on ids) (bound_on ids) (bound_on ids') names k.whole.numbering key parent was now others c.laws.ensures.tree bounds)
            (λ s. refl) entries (λ i. refl);
        fallen = begins.fallen-added c.self.inside.pid_max (way old) (way new) (entry_on ids) (bound_on ids) (bound_on ids') names k.whole.numbering key parent was now others
            (fell old) (fell new) (entry_on ids') k.whole.fallen (sym (views.fell_is c.self.inside c.self.view_is parent) ∙ (standing (namespace_at c.args.self.now parent) c.requires.stands).1)
            (ap (λ o. option_map_or (λ t. t.fallen) o false) add.made) (λ s m. ap (λ o. option_map_or (λ t. t.fallen) o false) (add.others s m))
            (λ s n i led. (i, ap (option_map (λ (e : Entry ℕ). e.value)) (entries s n) ∙ led));
      };
      some = c.laws.ensures.some;
      listed = c.laws.ensures.listed;
      count = c.put_ids.ensures.count ∙ ap (λ n. grown n key) (ap length c.in_ok-try_reserve.ensures.items ∙ k.count) ∙ sym add.count;
    }

pub returns-clause-fresh : goal.returns-clause-fresh
returns-clause-fresh c =
    views.namespace_is c.self.inside c.self.view_is c.in_ok-key.key ∙ ap (option_map (namespace_of (cursor_on c.self.inside.ids.items c.in_ok-key.key))) c.in_ok-key.ensures.vacant

pub invariant_of-self-in_err-key : goal.invariant_of-self-in_err-key
invariant_of-self-in_err-key c = grind arith

pub returns-clause-made : goal.returns-clause-made
returns-clause-made c =
    let cursor : cursor_on c.put_ids.new.all.items c.in_ok-key.key ≡ 0 = ap (λ o. option_map_or (λ t. t.cursor) o 0) c.put_ids.ensures.here ∙ c.new-ids.ensures.cursor in
    views.namespace-at (cursor_on c.put_ids.new.all.items) c.add.new.self.nodes c.in_ok-key.key
    ∙ ap (option_map (namespace_of (cursor_on c.put_ids.new.all.items c.in_ok-key.key))) c.in_ok-key.ensures.made
    ∙ ap (λ k. Some (namespace_of k (new_node c.args.id (c.in_ok-key.key ∷ way c.self.inside.tree.nodes c.args.parent)))) cursor
    ∙ ap (λ p. Some (namespace_of 0 (new_node c.args.id (c.in_ok-key.key ∷ p)))) (sym (views.path-of c.self.inside c.self.view_is c.args.parent))

pub returns-clause-others : goal.returns-clause-others
returns-clause-others c s m =
    let nodes = c.self.inside.tree.nodes in
    let cursor : cursor_on c.put_ids.new.all.items s ≡ cursor_on c.self.inside.ids.items s = ap (λ o. option_map_or (λ t. t.cursor) o 0) (c.put_ids.ensures.others s m ∙ ap (λ l. slice_get l s) c.in_ok-try_reserve.ensures.items) in
    views.namespace-at (cursor_on c.put_ids.new.all.items) c.add.new.self.nodes s ∙ ap (option_map (namespace_of (cursor_on c.put_ids.new.all.items s))) (c.in_ok-key.ensures.others s m)
    ∙ ap (λ k. option_map (namespace_of k) (node_in nodes s)) cursor
    ∙ sym (views.namespace_is c.self.inside c.self.view_is s)
