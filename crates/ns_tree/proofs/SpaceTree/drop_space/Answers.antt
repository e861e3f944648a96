-- Its id alone leaves the order, and no path has it
use Rattle.std.proofs.Common.{◌≡◌, ◌≢◌, inl, inr, ℕ, ◌<◌, [], List, Option, None, Some, IsSome, is_some, true, false, length, slice_get, subst, ◌∙◌, sym, ap, option_map, arith}
use Rattle.std.specs.List.{filter}
use Rattle.std.specs.Option.{option_map_or}
use Rattle.std.proofs.lemmas.Bool.{both_ways, cases_eq}
use Rattle.std.proofs.lemmas.List.{length-set}
use Rattle.id_slab.specs.Ids.{without}
use Rattle.member_lists.specs.Owners.{owner_of}
use Rattle.pid_types.specs.Chains.{contains}
use Rattle.ns_tree.specs.Tree.{TreeOfSpaces, Node, AreListed, node_in, way, id_in, outer_of}
use Rattle.ns_tree.proofs.Growth as growth
use Rattle.ns_tree.proofs.Inner as inner
use Rattle.ns_tree.proofs.Nodes as nodes
use Rattle.ns_tree.proofs.Orders as orders
use Rattle.ns_tree.proofs.SpaceTree.drop_space.Goals as goal

-- one key has a namespace no more
module _ (old new : List (Option Node)) (key : ℕ) (was : Node) (there : node_in old key ≡ Some was) (gone : node_in new key ≡ None) (others : (s : ℕ) → s ≢ key → node_in new s ≡ node_in old s) where
  left : (order : List (ℕ × ℕ)) → AreListed (id_in old) order → without order was.id ≡ filter (λ p. is_some (node_in new p.1)) order
  left order l =
      orders.without-key (id_in old) (id_in old) order l (λ s. is_some (node_in new s)) was.id key (ap (option_map (λ t. t.id)) there) (ap is_some gone)
      (λ s j m e. ap is_some (others s m) ∙ orders.id-there (node_in old s) j e)

  listed : (order : List (ℕ × ℕ)) → AreListed (id_in old) order → AreListed (id_in new) (filter (λ p. is_some (node_in new p.1)) order)
  listed order l = orders.listed-kept (id_in old) (id_in new) order l (λ s. is_some (node_in new s)) stays (λ s off. orders.id-gone (node_in new s) off)
    where
      stays : (s : ℕ) → is_some (node_in new s) ≡ true → id_in new s ≡ id_in old s
      stays s on = elim (cases_eq s key) [
        | inl same ↦ absurd (both_ways (is_some (node_in new s)) (ap (λ s. is_some (node_in new s)) same ∙ ap is_some gone) on)
        | inr differs ↦ ap (option_map (λ t. t.id)) (others s differs)
      ]

  some : ((s : ℕ) → IsSome (node_in old s) → 0 < length (way old s)) → (s : ℕ) → IsSome (node_in new s) → 0 < length (way new s)
  some had s is = elim (cases_eq s key) [
    | inl same ↦ absurd (let none : node_in new s ≡ None = ap (node_in new) same ∙ gone in cc)
    | inr differs ↦ subst (λ (o : Option Node). 0 < length (option_map_or (λ t. t.path) o [])) (sym (others s differs)) (had s (subst IsSome (others s differs) is))
  ]

pub invariant_of-self : goal.invariant_of-self
invariant_of-self c =
    let old = c.self.inside.places.nodes in
    let new = c.remove-space.new.self.nodes in
    let key = c.args.key in
    let e = c.remove-space.ensures in
    let children = c.self.inside.children in
    let lists = c.self.invariant.lists in
    let lt = nodes.way-in old key (c.self.invariant.some key (subst (λ (t : TreeOfSpaces). IsSome (node_in t.nodes key)) (sym c.self.view_is) c.requires.there)) in
    let nothing : Option ℕ = None in
    let paths : (s : ℕ) → s ≢ key → way new s ≡ way old s = λ s m. ap (λ o. option_map_or (λ t. t.path) o []) (e.others s m) in
    record {
      tree = growth.tree-dropped (way old) (way new) c.self.invariant.tree key c.requires.inner
          (subst (λ (t : TreeOfSpaces). (s : ℕ) → s ≢ key → contains (way t.nodes s) key ≡ false) (sym c.self.view_is) c.requires.bare)
          (ap (λ o. option_map_or (λ t. t.path) o []) e.here) paths;
      some = some old new key _ e.value e.here e.others c.self.invariant.some;
      listed = subst (AreListed (id_in new)) (sym (c.remove.ensures.rest ∙ left old new key _ e.value e.here e.others c.self.inside.order c.self.invariant.listed)) (listed old new key _ e.value e.here e.others c.self.inside.order c.self.invariant.listed);
      owners = subst (λ l. (s : ℕ) → owner_of l s ≡ outer_of (way new) s) (sym c.remove-2.ensures)
          (inner.owners-set (way old) children c.self.invariant.owners (way new) key None (omega (arith, lt, lists)) (ap (λ o. slice_get (option_map_or (λ t. t.path) o []) 1) e.here) paths);
      lists = (let n = e.count in let m = length-set children key nothing in let l = ap length c.remove-2.ensures in omega (arith, n, m, l, lists));
    }

pub returns-clause-order : goal.returns-clause-order
returns-clause-order c =
    let e = c.remove-space.ensures in
    c.remove.ensures.rest ∙ left c.self.inside.places.nodes c.remove-space.new.self.nodes c.args.key _ e.value e.here e.others c.self.inside.order c.self.invariant.listed
    ∙ ap (λ (t : TreeOfSpaces). filter (λ p. is_some (node_in c.remove-space.new.self.nodes p.1)) t.order) c.self.view_is
