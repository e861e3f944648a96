-- The group goes from the list; its node goes too where it is empty, and stays for its zombies, whose home is then the nearest group above that stands
use Rattle.pids_charge.proofs.Words.{None, Option, Some, ap, arith, false, map, not, option_and_then, refl, set, sym, true, ℕ, ◌==◌, ◌∙◌, ◌≡◌, rules}
use Rattle.pids_charge.proofs.Words.{length-set, filter, without, Control, Charges, handed_on, home_at, home_id, control_in, limit_in, total_at, tree_of, Node}
use Rattle.pids_charge.proofs.Climbs as climbs
use Rattle.pids_charge.proofs.Views as views
use Rattle.pids_charge.proofs.Dropped as dropped
use Rattle.pids_charge.proofs.Linked as linked
use Rattle.pids_charge.proofs.Removed.{Removes}
use Rattle.pids_charge.proofs.Removed as removed
use Rattle.pids_charge.proofs.Controls.remove.Goals as goal
use Rattle.pids_charge.proofs.Controls.remove.Goals.{After-set_node}

-- the removal
removes : (c : After-set_node) → Removes c.self.inside.nodes c.set_node.new.nodes c.args.c (removed.some_of c.node_at-node.result.parent (c.is_none.ensures ∙ ap not c.if-is_none.false)).0 c.node_at-node.result
removes c = grind (arith, views.stand_in, removed.stands_is_field, removed.some_of, removed.childless_of)

pub node_at-node-requires : goal.node_at-node-requires
node_at-node-requires c = views.there_in c.self.inside c.self.view_is c.args.c c.requires

pub returns-then-is_none-clause-refusal : goal.returns-then-is_none-clause-refusal
returns-then-is_none-clause-refusal c =
    sym (removed.refused c.self.inside c.self.view_is c.self.invariant.listed c.args.c c.requires false _ c.node_at-node.ensures
    (c.is_none.ensures ∙ ap not c.if-is_none.true) refl)

pub returns-then-node-gt0-clause-refusal : goal.returns-then-node-gt0-clause-refusal
returns-then-node-gt0-clause-refusal c =
    let l = c.self.invariant.listed in
    let busy = removed.busy-live c.self.inside c.self.invariant.tree l c.args.c
    (views.stand_in c.self.inside c.self.view_is c.args.c c.requires) c.node_at-node.ensures c.if-node-gt0.true in
    sym (removed.refused c.self.inside c.self.view_is l c.args.c c.requires true true c.node_at-node.ensures
    (c.is_none.ensures ∙ ap not c.if-is_none.false) busy)

pub returns-then-is_some-clause-refusal : goal.returns-then-is_some-clause-refusal
returns-then-is_some-clause-refusal c =
    let l = c.self.invariant.listed in
    let k = removed.child_found l c.args.c c.first.result c.first.ensures (sym c.is_some.ensures ∙ c.if-is_some.true) in
    let busy = removed.busy-child c.self.inside c.self.invariant.tree l c.args.c (views.stand_in c.self.inside c.self.view_is c.args.c c.requires) k.0 k.1 in
    sym (removed.refused c.self.inside c.self.view_is l c.args.c c.requires true true c.node_at-node.ensures
    (c.is_none.ensures ∙ ap not c.if-is_none.false) busy)

pub remove-requires-2-clause-owned : goal.remove-requires-2-clause-owned
remove-requires-2-clause-owned c = grind (arith, views.stand_in, climbs.up-is)

pub remove-requires-2-clause-key : goal.remove-requires-2-clause-key
remove-requires-2-clause-key c = grind arith

pub drop_empty-requires-clause-tree : goal.drop_empty-requires-clause-tree
drop_empty-requires-clause-tree c =
    let r = removes (goal.at.drop_empty-requires-clause-tree c).After-set_node in
    removed.IsTree-unstood r

pub drop_empty-requires-clause-counted : goal.drop_empty-requires-clause-counted
drop_empty-requires-clause-counted c =
    let r = removes (goal.at.drop_empty-requires-clause-counted c).After-set_node in
    let none : c.node_at-node.result.live ≡ 0 = omega (arith, c.if-node-gt0.false) in
    removed.IsCounted-unstood r (total_at c.self.inside.counters.items) c.self.invariant.counted none

pub drop_empty-requires-clause-linked : goal.drop_empty-requires-clause-linked
drop_empty-requires-clause-linked c =
    linked.linked-written c.self.inside.counters.items c.self.invariant.linked c.node_at-node.ensures c.set_node.ensures refl refl

pub invariant_of-self : goal.invariant_of-self
invariant_of-self c =
    let r = removes (goal.at.invariant_of-self c).After-set_node in
    let room = c.self.invariant.room c.args.c (views.there_in c.self.inside c.self.view_is c.args.c c.requires) in
    let id = views.field-is (λ (n : Node). n.id) 0 c.self.inside.nodes c.args.c c.node_at-node.result c.node_at-node.ensures in
    let nothing : Option ℕ = None in
    rw (c.remove.ensures.rest, ← id, c.remove-2.ensures) (dropped.IsKept-dropped c.set_node.new.nodes c.drop_empty.new.nodes c.drop_empty.ensures.drops
    c.self.inside.counters.items (set c.self.inside.children c.args.c None) (without c.self.inside.ids ((tree_of c.self.inside.nodes).id c.args.c))
    c.drop_empty.ensures.tree c.drop_empty.ensures.counted c.drop_empty.ensures.linked
    (removed.IsListed-unstood r c.self.inside.children c.self.inside.ids c.self.invariant.listed room)
    (λ j on. omega (arith, c.self.invariant.room j (sym (removed.there_same r j) ∙ on), length-set c.self.inside.children c.args.c nothing))
    (omega (arith, c.self.invariant.small, length-set c.self.inside.children c.args.c nothing)))

pub returns : goal.returns
returns c =
    let r = removes (goal.at.returns c).After-set_node in
    let t = tree_of c.self.inside.nodes in
    let children = c.self.inside.children in
    let ids = c.self.inside.ids in
    let l = c.self.invariant.listed in
    let up = views.stand_in c.self.inside c.self.view_is c.args.c c.requires in
    let id_c = sym (views.id_in c.self.inside c.self.view_is c.args.c c.requires) in
    record {
      refusal =
          let childless = removed.childless_of l c.args.c c.first.result c.first.ensures (sym c.is_some.ensures ∙ c.if-is_some.false) in
          let busy = removed.busy-none c.self.inside c.self.invariant.tree l c.args.c up c.node_at-node.ensures
          (omega (arith, c.if-node-gt0.false)) childless in
          sym (removed.refused c.self.inside c.self.view_is l c.args.c c.requires true false c.node_at-node.ensures
          (c.is_none.ensures ∙ ap not c.if-is_none.false) busy);
      controls =
          let id = views.field-is (λ (n : Node). n.id) 0 c.self.inside.nodes c.args.c c.node_at-node.result c.node_at-node.ensures in
          ap (map (control_in (tree_of c.drop_empty.new.nodes) (limit_in c.drop_empty.new.nodes))) (c.remove.ensures.rest ∙ ap (without ids) (sym id))
          ∙ dropped.controls-dropped c.set_node.new.nodes c.drop_empty.new.nodes c.drop_empty.ensures.drops (set children c.args.c None)
          (without ids (t.id c.args.c))
          (removed.IsTree-unstood r) (removed.IsListed-unstood r children ids l (c.self.invariant.room c.args.c (views.there c.self.inside.nodes c.args.c up)))
          ∙ removed.controls-unstood r children ids l
          ∙ ap (λ i. filter (λ (g : Control). not (g.id == i)) (map (control_in t (limit_in c.self.inside.nodes)) ids)) id_c
          ∙ ap (λ (v : Charges). filter (λ (g : Control). not (g.id == home_id c.args.self.now c.args.c)) v.controls) c.self.view_is;
      homes = λ parent above k.
          let q = removed.some_of c.node_at-node.result.parent (c.is_none.ensures ∙ ap not c.if-is_none.false) in
          let sees = views.parent_seen c.self.inside c.self.view_is l c.self.invariant.tree c.args.c c.requires (Some q.0)
          (climbs.up-is c.self.inside.nodes c.args.c c.node_at-node.result c.node_at-node.ensures ∙ q.1) in
          let one : Some (home_id c.args.self.now q.0) ≡ Some parent = sees.0 ∙ above in
          let id_p : t.id q.0 ≡ parent = sym (views.id_in c.self.inside c.self.view_is q.0 sees.1) ∙ (let e : home_id c.args.self.now q.0 ≡ parent = cc in e) in
          views.home_at-is c.drop_empty.new.nodes c.remove.new.self k ∙ c.drop_empty.ensures.drops.shown k ∙ removed.home-unstood r children ids l k
          ∙ ap (λ i. option_and_then (handed_on i (t.id q.0)) (views.home_in c.self.inside.nodes k)) id_c
          ∙ ap (λ i. option_and_then (handed_on (home_id c.args.self.now c.args.c) i) (views.home_in c.self.inside.nodes k)) id_p
          ∙ ap (option_and_then (handed_on (home_id c.args.self.now c.args.c) parent))
          (sym (views.home_at-is c.self.inside.nodes ids k) ∙ ap (λ (v : Charges). home_at v k) c.self.view_is);
      tasks = omega (arith, views.all-of c.self.inside c.self.view_is, views.all-is c.drop_empty.new.nodes c.remove.new.self, removed.all-same r);
      err = search rules;
    }
