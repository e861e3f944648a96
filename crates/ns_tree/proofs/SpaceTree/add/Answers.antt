-- The key was vacant, so it is on no other path: the new path is the parent's behind it, and the order has its id last
use Rattle.std.proofs.Common.{◌≡◌, ◌≢◌, ◌∙◌, ◌∷◌, [], ℕ, ◌<◌, ◌≤◌, List, Some, inl, inr, IsSome, option_map, length, slice_get, sym, ap, subst, arith}
use Rattle.std.specs.Option.{option_map_or}
use Rattle.std.proofs.lemmas.Bool.{cases_eq}
use Rattle.std.proofs.lemmas.List.{length-set}
use Rattle.id_slab.specs.Ids.{AreBelow}
use Rattle.member_lists.specs.Owners.{owner_of}
use Rattle.ns_tree.specs.Tree.{TreeOfSpaces, AreListed, node_in, way, id_in, new_node, grown, outer_of}
use Rattle.ns_tree.specs.Places.{Placed, IsSpaceTree}
use Rattle.ns_tree.proofs.Growth as growth
use Rattle.ns_tree.proofs.Inner as inner
use Rattle.ns_tree.proofs.Nodes as nodes
use Rattle.ns_tree.proofs.Orders as orders
use Rattle.ns_tree.proofs.SpaceTree.add.Goals as goal

pub grow_lists-requires : goal.grow_lists-requires
grow_lists-requires c = c.in_ok-key.ensures.few

pub add-requires-clause-free : goal.add-requires-clause-free
add-requires-clause-free c =
    c.grow_lists.ensures.owners c.in_ok-key.key ∙ c.self.invariant.owners c.in_ok-key.key ∙ ap (λ o. slice_get (option_map_or (λ t. t.path) o []) 1) c.in_ok-key.ensures.vacant

pub add-requires-clause-owner : goal.add-requires-clause-owner
add-requires-clause-owner c =
    let there = subst (λ (t : TreeOfSpaces). IsSome (node_in t.nodes c.args.parent)) (sym c.self.view_is) c.requires.there in
    let lt = nodes.way-in c.self.inside.places.nodes c.args.parent (c.self.invariant.some c.args.parent there) in
    let lists = c.self.invariant.lists in
    let longer = c.grow_lists.ensures.longer in
    omega (arith, lt, lists, longer)

-- the room that was made shows nothing
same-nodes : (old new : Placed) → new ≡ record old { ready = new.ready } → new.nodes ≡ old.nodes
same-nodes old new same = ap (λ (s : Placed). s.nodes) same

pub invariant_of-self : goal.invariant_of-self
invariant_of-self c = subst (λ l. IsSpaceTree l c.self.inside.order c.self.inside.children) (sym (same-nodes c.self.inside.places c.make_room.new.self c.make_room.ensures.same)) c.self.invariant

pub invariant_of-self-2 : goal.invariant_of-self-2
invariant_of-self-2 c =
    let old = c.self.inside.places.nodes in
    let new = c.insert_reserved.new.self.nodes in
    let key = c.in_ok-key.key in
    let parent = c.args.parent in
    let order = c.self.inside.order in
    let none = c.in_ok-key.ensures.vacant in
    let room : c.make_room.new.self.nodes ≡ old = same-nodes c.self.inside.places c.make_room.new.self c.make_room.ensures.same in
    let at : c.make_room.new.self.next ≡ key = sym c.in_ok-key.ensures.key in
    let made : node_in new key ≡ Some (new_node c.args.id (key ∷ way old parent)) =
    ap (node_in new) (sym at) ∙ c.insert_reserved.ensures.here ∙ ap (λ p. Some (new_node c.args.id p)) (c.path_below-path.ensures ∙ ap (λ l. key ∷ way l parent) room) in
    let others : (s : ℕ) → s ≢ key → node_in new s ≡ node_in old s = λ s m. c.insert_reserved.ensures.others s (λ e. m (e ∙ at)) ∙ ap (λ l. node_in l s) room in
    let some = c.self.invariant.some parent (subst (λ (t : TreeOfSpaces). IsSome (node_in t.nodes parent)) (sym c.self.view_is) c.requires.there) in
    let path : way new key ≡ key ∷ way old parent = ap (λ o. option_map_or (λ t. t.path) o []) made in
    let paths : (s : ℕ) → s ≢ key → way new s ≡ way old s = λ s m. ap (λ o. option_map_or (λ t. t.path) o []) (others s m) in
    let outer : outer_of (way new) key ≡ Some parent = ap (λ p. slice_get p 1) path ∙ inner.outer-new (way old) c.self.invariant.tree key parent some in
    let lists = c.self.invariant.lists in
    let longer = c.grow_lists.ensures.longer in
    let room_for = c.in_ok-grow_lists.ensures.room in
    let long : length new ≡ grown (length old) key = c.insert_reserved.ensures.count ∙ ap (grown (length c.make_room.new.self.nodes)) at ∙ ap (λ n. grown n key) (ap length room) in
    record {
      tree = growth.tree-added (way old) (way new) c.self.invariant.tree key parent (ap (λ o. option_map_or (λ t. t.path) o []) none) path paths some
          (let few = subst (λ (t : TreeOfSpaces). length (way t.nodes parent) ≤ 32) (sym c.self.view_is) c.requires.shallow in omega (arith, few));
      some = λ s there. elim (cases_eq s key) [
        | inl same ↦ (let l = ap length (ap (way new) same ∙ path) in omega (arith, l))
        | inr differs ↦ subst (λ (p : List ℕ). 0 < length p) (sym (paths s differs)) (c.self.invariant.some s (subst IsSome (others s differs) there))
      ];
      listed = subst (AreListed (id_in new)) (sym c.in_ok-push.ensures.ok) (orders.listed-made (id_in old) (id_in new) order c.self.invariant.listed c.args.id key (subst (λ (t : TreeOfSpaces). AreBelow t.order c.args.id) (sym c.self.view_is) c.requires.above)
          (ap (option_map (λ t. t.id)) none) (ap (option_map (λ t. t.id)) made) (λ s m. ap (option_map (λ t. t.id)) (others s m)));
      owners = subst (λ l. (s : ℕ) → owner_of l s ≡ outer_of (way new) s) (sym c.add.ensures)
          (inner.owners-set (way old) c.grow_lists.new.children (λ s. c.grow_lists.ensures.owners s ∙ c.self.invariant.owners s) (way new) key (Some parent) room_for outer paths);
      lists = (let n = inner.grown-le (length old) key (length c.grow_lists.new.children) (omega (arith, lists, longer)) room_for in let m = length-set c.grow_lists.new.children key (Some parent) in let l = ap length c.add.ensures in omega (arith, long, n, m, l));
    }
