-- A new leaf changes no path and no subtree of the others, and its own key was nobody's
use Rattle.pids_charge.proofs.Words.{None, Option, Some, [], ap, arith, length, map, refl, subst, suc, sym, ℕ, ◌++◌, ◌+◌, ◌<◌, ◌∙◌, ◌∷◌, ◌≡◌, rules, length-set}
use Rattle.pids_charge.proofs.Words.{AllByRecursion, control_path, Control, Slab, Charges, home_at, home_id, charges_of, control_in, limit_in, tree_of}
use Rattle.pids_charge.proofs.Words.{Counter, Node}
use Rattle.std.proofs.lemmas.Result.{err_from_is_err_and}
use Rattle.pids_charge.proofs.Views as views
use Rattle.pids_charge.proofs.Linked as linked
use Rattle.pids_charge.proofs.Made.{Makes, node}
use Rattle.pids_charge.proofs.Made as made
use Rattle.pids_charge.proofs.Controls.make.Goals as goal
use Rattle.pids_charge.proofs.Controls.make.Goals.{After-node_at-level, After-insert_reserved}

-- the path of the control group above is as long as its level says
long : (c : After-node_at-level) → length (control_path c.args.self.now.controls (home_id c.args.self.now c.args.parent)) ≡ suc ((tree_of c.self.inside.nodes).level c.args.parent)
long c = made.long-path c.self.inside c.self.view_is c.self.invariant.tree c.self.invariant.listed c.args.parent c.requires.stands

-- and its level is read
level : (c : After-node_at-level) → (tree_of c.self.inside.nodes).level c.args.parent ≡ c.node_at-level.result.level
level c = views.field-is (λ (n : Node). n.level) 0 c.self.inside.nodes c.args.parent c.node_at-level.result c.node_at-level.ensures

-- the new control group
makes : (c : After-insert_reserved) → Makes c.self.inside.nodes c.insert_reserved.new.self c.in_ok-key.key c.args.parent c.args.stamp (c.node_at-level.result.level + 1)
makes c = grind (arith, long, level, views.field-is, node, made.updates-from, views.stand_in)

pub node_at-level-requires : goal.node_at-level-requires
node_at-level-requires c = views.there_in c.self.inside c.self.view_is c.args.parent c.requires.stands

pub invariant_of-self : goal.invariant_of-self
invariant_of-self c = made.IsKept-room c.self.inside.nodes c.make_room.new.nodes c.make_room.new.nodes.capacity c.in_err-key.ensures.nodes c.self.inside.counters.items c.make_room.new.counters.items c.self.inside.children c.make_room.new.children c.self.inside.ids c.self.invariant c.in_err-key.ensures.counters c.in_err-key.ensures.children.same c.in_err-key.ensures.longer c.in_err-key.ensures.children.longer (c.in_err-key.ensures.children.few c.self.invariant.small)

pub returns-in_err-key-clause-err : goal.returns-in_err-key-clause-err
returns-in_err-key-clause-err c =
    let p = err_from_is_err_and c.from_residual.result c.from_residual.ensures.1 in
    rw p.1 (ap (λ (s : Slab Node). charges_of s c.self.inside.ids) c.in_err-key.ensures.nodes ∙ c.self.view_is)

pub returns-in_err-key-clause-deep : goal.returns-in_err-key-clause-deep
returns-in_err-key-clause-deep c = grind (arith, err_from_is_err_and)

pub push-requires : goal.push-requires
push-requires c = made.below-ids (tree_of c.self.inside.nodes) (limit_in c.self.inside.nodes) c.args.stamp c.self.inside.ids (subst (λ (v : Charges). AllByRecursion (λ (g : Control). g.id < c.args.stamp) v.controls) (sym c.self.view_is) c.requires.above)

pub add-requires-clause-owner : goal.add-requires-clause-owner
add-requires-clause-owner c = grind arith

pub invariant_of-self-in_err-push : goal.invariant_of-self-in_err-push
invariant_of-self-in_err-push c = rw c.in_err-push.ensures.err (made.IsKept-room c.self.inside.nodes c.make_room.new.nodes c.make_room.new.nodes.capacity c.in_ok-key.ensures.nodes c.self.inside.counters.items c.make_room.new.counters.items c.self.inside.children c.make_room.new.children c.self.inside.ids c.self.invariant c.in_ok-key.ensures.counters c.in_ok-key.ensures.children.same c.in_ok-key.ensures.longer c.in_ok-key.ensures.children.longer (c.in_ok-key.ensures.children.few c.self.invariant.small))

pub returns-in_err-push-clause-err : goal.returns-in_err-push-clause-err
returns-in_err-push-clause-err c =
    let p = err_from_is_err_and c.from_residual-in_err-push.result c.from_residual-in_err-push.ensures.1 in
    rw p.1 (ap (λ ids. charges_of c.make_room.new.nodes ids) c.in_err-push.ensures.err ∙ ap (λ (s : Slab Node). charges_of s c.self.inside.ids) c.in_ok-key.ensures.nodes ∙ c.self.view_is)

pub returns-in_err-push-clause-deep : goal.returns-in_err-push-clause-deep
returns-in_err-push-clause-deep c = grind (arith, err_from_is_err_and)

pub add-requires-clause-free : goal.add-requires-clause-free
add-requires-clause-free c = grind (arith, made.no_child)

pub invariant_of-self-2 : goal.invariant_of-self-2
invariant_of-self-2 c =
    let m = makes (goal.at.invariant_of-self-2 c).After-insert_reserved in
    let room = c.in_ok-key.ensures in
    let counter : Counter = record { total = 0; limit = None; parent = Some c.args.parent } in
    let some : Option ℕ = Some c.args.parent in
    let below = made.below-ids (tree_of c.self.inside.nodes) (limit_in c.self.inside.nodes) c.args.stamp c.self.inside.ids
    (subst (λ (v : Charges). AllByRecursion (λ (g : Control). g.id < c.args.stamp) v.controls) (sym c.self.view_is) c.requires.above) in
    rw (c.new-2.ensures, c.in_ok-push.ensures.ok, c.add.ensures) (record {
      tree = made.IsTree-made m;
      counted = made.IsCounted-made m c.self.inside.counters.items c.self.invariant.counted c.make_room.new.counters.items room.counters counter refl room.room;
      linked = linked.linked-both c.make_room.new.counters.items c.in_ok-key.key counter room.room c.self.inside.nodes c.insert_reserved.new.self
          c.self.inside.counters.items c.self.invariant.linked room.counters room.longer _ m.updates refl refl;
      listed = made.IsListed-made m c.self.inside.children c.self.inside.ids c.self.invariant.listed below c.make_room.new.children room.children.same room.lists;
      room = λ k on.
          let within = made.room-made m c.self.inside.children c.self.invariant.room c.make_room.new.children room.children.longer room.lists k on in
          omega (arith, within, length-set c.make_room.new.children c.in_ok-key.key some);
      small = let small = room.children.few c.self.invariant.small in omega (arith, small, length-set c.make_room.new.children c.in_ok-key.key some);
    })

pub returns : goal.returns
returns c =
    let m = makes (goal.at.returns c).After-insert_reserved in
    let nodes = c.self.inside.nodes in
    let new = c.insert_reserved.new.self in
    let ids = c.self.inside.ids in
    let group : ℕ → Control = λ i. record { id = c.args.stamp; parent = Some i; limit = None } in
    record {
      residents = c.in_ok-key.ensures.residents;
      room = c.in_ok-key.ensures.homes;
      controls =
          ap (map (control_in (tree_of new) (limit_in new))) c.in_ok-push.ensures.ok ∙ made.controls-made m c.self.inside.children ids c.self.invariant.listed
          ∙ ap (λ i. map (control_in (tree_of nodes) (limit_in nodes)) ids ++ group i ∷ [])
          (sym (views.id_in c.self.inside c.self.view_is c.args.parent c.requires.stands))
          ∙ ap (λ (v : Charges). v.controls ++ group (home_id c.args.self.now c.args.parent) ∷ []) c.self.view_is;
      fresh = sym (ap (λ (v : Charges). home_at v c.in_ok-key.key) c.self.view_is) ∙ views.home_at-is nodes ids c.in_ok-key.key
          ∙ made.home-none nodes c.in_ok-key.key m.old;
      here = views.home_at-is new c.push.new.self c.in_ok-key.key ∙ made.home-made m;
      others = λ k d.
          views.home_at-is new c.push.new.self k ∙ made.home-others m k d ∙ sym (views.home_at-is nodes ids k)
          ∙ ap (λ (v : Charges). home_at v k) c.self.view_is;
      tasks = omega (arith, views.all-of c.self.inside c.self.view_is, views.all-is new c.push.new.self, made.all-made m);
      deep = grind (arith);
      err = search rules;
    }
