-- The numbers were planned before the namespace was there: it takes a key that none had, so no plan on the path around it has moved
use Rattle.std.proofs.lemmas.Grind.{common_steps}
use Rattle.pid_numbers.proofs.Words.{◌≡◌, ◌∙◌, ◌∷◌, ◌-◌, sym, ap, subst, arith, length, take, drop, Some, IsSome, Option, true, false, option_map}
use Rattle.pid_numbers.proofs.Words.{slice_get, option_map_or, grown, new_node, node_in, way, IsDistinct, Namespace, namespace_at, path_at, moved}
use Rattle.pid_numbers.proofs.Words.{new_identifier, namespace_of, cursor_on, entry_on, touched, stepped, given_to, ArePlanned, AreReady, identifier_of}
use Rattle.pid_numbers.proofs.Views.{IsPlan}
use Rattle.pid_numbers.proofs.Views as views
use Rattle.pid_numbers.proofs.Seats as seats
use Rattle.pid_numbers.proofs.Begins.{IsBegun}
use Rattle.pid_numbers.proofs.Begins as begins
use Rattle.pid_numbers.proofs.Numbers.draw_new.Goals as goal
use Rattle.pid_numbers.proofs.Numbers.draw_new.Goals.{After-put_ids, After-insert_reserved}

-- a namespace that stands is there
standing : (o : Option Namespace) → option_map_or (λ t. t.fallen) o true ≡ false → IsSome o × (option_map_or (λ t. t.fallen) o false ≡ false)
standing o e = grind arith

-- the namespace has begun
begun : (c : After-put_ids) → IsBegun c.self.inside.pid_max c.self.inside.tree c.add.new.self c.self.inside.ids.items c.prepare_path.new.ids.items c.put_ids.new.all.items c.self.inside.idents c.args.parent c.in_ok-key.key c.args.id (take (length c.args.numbers.now - 1) (drop 1 c.args.numbers.now)) c.in_ok-ids.ids
begun c = record {
  kept = c.self.invariant;
  plan = views.plan-of c.self.inside c.self.view_is c.self.invariant c.args.parent
      (take (length c.args.numbers.now - 1) (drop 1 c.args.numbers.now)) c.requires.all (begins.around-is c.args.numbers.now _ c.requires.planned);
  there = c.self.invariant.some c.args.parent
      (views.there c.self.inside c.self.view_is c.args.parent (standing (namespace_at c.args.self.now c.args.parent) c.requires.stands).0);
  vacant = c.in_ok-key.ensures.vacant;
  made = c.in_ok-key.ensures.made;
  rest = c.in_ok-key.ensures.others;
  here = c.put_ids.ensures.here;
  same = λ s m. c.put_ids.ensures.others s m ∙ ap (λ l. slice_get l s) c.in_ok-try_reserve.ensures.items;
  plans = c.in_ok-prepare_path.ensures.plan;
}

-- and the identifier is put
put : (c : After-insert_reserved) → seats.IsPut c.self.inside.idents c.insert_reserved.new.self c.in_ok-ident.ident (new_identifier c.in_ok-key.key c.args.numbers.now)
put c = seats.put c.self.inside.idents c.make_room.new.self c.insert_reserved.new.self c.in_ok-ident.ident c.insert_reserved.result _ _ (ap (new_identifier c.in_ok-key.key) c.in_ok-stored.ensures) c.in_ok-ident.ensures.vacant c.in_ok-ident.ensures.same (c.in_ok-ident.ensures.key ∙ sym c.insert_reserved.ensures.key) c.insert_reserved.ensures.updates

pub prepare_path-requires : goal.prepare_path-requires
prepare_path-requires c =
    let p = views.plan-of c.self.inside c.self.view_is c.self.invariant c.args.parent
    (take (length c.args.numbers.now - 1) (drop 1 c.args.numbers.now)) c.requires.all (begins.around-is c.args.numbers.now _ c.requires.planned) in
    record {
      planned = subst (λ p. ArePlanned c.self.inside.ids.items p (take (length c.args.numbers.now - 1) (drop 1 c.args.numbers.now))) (sym c.path_up.ensures) p.drawn;
      len = p.len ∙ ap length (sym c.path_up.ensures);
    }

pub invariant_of-self-in_err-ids : goal.invariant_of-self-in_err-ids
invariant_of-self-in_err-ids c = grind arith

pub returns-clause-key : goal.returns-clause-key
returns-clause-key c = grind arith

pub add-requires-clause-there : goal.add-requires-clause-there
add-requires-clause-there c = views.there c.self.inside c.self.view_is c.args.parent (standing (namespace_at c.args.self.now c.args.parent) c.requires.stands).0

pub from-requires : goal.from-requires
from-requires c = grind (arith, common_steps)

pub invariant_of-self : goal.invariant_of-self
invariant_of-self c = grind arith

pub add-requires-clause-shallow : goal.add-requires-clause-shallow
add-requires-clause-shallow c =
    let l = ap length (views.path-of c.self.inside c.self.view_is c.args.parent) in
    let s = c.requires.shallow in
    omega (arith, l, s)

pub give_path-requires : goal.give_path-requires
give_path-requires c =
    let g = begun (goal.at.give_path-requires c).After-put_ids in
    let path : c.path_up-2.result.now ≡ way c.self.inside.tree.nodes c.args.parent = c.path_up-2.ensures ∙ begins.path-same g in
    record {
      distinct = subst IsDistinct (sym path) g.plan.distinct;
      planned = subst (λ p. ArePlanned c.put_ids.new.all.items p (take (length c.args.numbers.now - 1) (drop 1 c.args.numbers.now))) (sym path) (begins.planned-still g);
      ready = subst (λ p. AreReady c.put_ids.new.all.items p (take (length c.args.numbers.now - 1) (drop 1 c.args.numbers.now))) (sym path) (begins.ready-still g (subst (λ p. AreReady c.prepare_path.new.ids.items p (take (length c.args.numbers.now - 1) (drop 1 c.args.numbers.now))) c.path_up.ensures c.in_ok-prepare_path.ensures.ok));
      len = g.plan.len ∙ ap length (sym path);
    }

pub invariant_of-self-2 : goal.invariant_of-self-2
invariant_of-self-2 c =
    let prep = c.in_ok-prepare_path.ensures in
    let first = c.in_ok-ids.ensures in
    let add = c.in_ok-key.ensures in
    let stands = sym (views.fell_is c.self.inside c.self.view_is c.args.parent) ∙ (standing (namespace_at c.args.self.now c.args.parent) c.requires.stands).1 in
    let g = begun (goal.at.invariant_of-self-2 c).After-put_ids in
    begins.kept-begun g stands c.in_ok-ident.ident prep.entries prep.bound first.pid_max first.here first.others c.give_path.new.ids.items c.insert_reserved.new.self
    (λ s n. c.give_path.ensures.entries s n ∙ ap (λ p. touched p (take (length c.args.numbers.now - 1) (drop 1 c.args.numbers.now)) (λ _. given_to true c.in_ok-ident.ident) (entry_on c.put_ids.new.all.items) s n) (c.path_up-2.ensures ∙ begins.path-same g)) c.give_path.ensures.bound
    (c.give_path.ensures.count ∙ c.put_ids.ensures.count ∙ ap (λ n. grown n c.in_ok-key.key) (ap length c.in_ok-try_reserve.ensures.items ∙ prep.count ∙ c.self.invariant.count) ∙ sym add.count)
    c.laws.ensures.tree c.laws.ensures.some c.laws.ensures.listed
    (subst (λ l. seats.IsPut c.self.inside.idents c.insert_reserved.new.self c.in_ok-ident.ident (new_identifier c.in_ok-key.key l)) (begins.all-is c.args.numbers.now _ c.requires.planned) (put (goal.at.invariant_of-self-2 c).After-insert_reserved))

pub returns-clause-pid_max : goal.returns-clause-pid_max
returns-clause-pid_max c = grind arith

pub invariant_of-self-in_err-prepare_path : goal.invariant_of-self-in_err-prepare_path
invariant_of-self-in_err-prepare_path c = grind arith

pub invariant_of-self-in_err-try_reserve : goal.invariant_of-self-in_err-try_reserve
invariant_of-self-in_err-try_reserve c = grind arith

pub returns-clause-order : goal.returns-clause-order
returns-clause-order c = grind arith

pub slice_bounds-around-start : goal.slice_bounds-around-start
slice_bounds-around-start c = grind arith

pub returns-clause-fresh : goal.returns-clause-fresh
returns-clause-fresh c = (
  views.identifier_is c.self.inside c.self.view_is c.in_ok-ident.ident ∙ ap (option_map identifier_of) c.in_ok-ident.ensures.vacant,
  views.namespace_is c.self.inside c.self.view_is c.in_ok-key.key
      ∙ ap (option_map (namespace_of (cursor_on c.self.inside.ids.items c.in_ok-key.key))) c.in_ok-key.ensures.vacant,
)

pub add-requires-clause-above : goal.add-requires-clause-above
add-requires-clause-above c = grind arith

pub returns-clause-named : goal.returns-clause-named
returns-clause-named c =
    views.name_is c.self.inside.pid_max c.add.new.self c.give_path.new.ids.items c.insert_reserved.new.self c.in_ok-ident.ident ∙ (put (goal.at.returns-clause-named c).After-insert_reserved).now

pub invariant_of-self-in_err-key : goal.invariant_of-self-in_err-key
invariant_of-self-in_err-key c = grind arith

pub slice_bounds-around-count : goal.slice_bounds-around-count
slice_bounds-around-count c = grind arith

pub invariant_of-self-in_err-stored : goal.invariant_of-self-in_err-stored
invariant_of-self-in_err-stored c = grind arith

pub returns-clause-others : goal.returns-clause-others
returns-clause-others c j m =
    views.name_is c.self.inside.pid_max c.add.new.self c.give_path.new.ids.items c.insert_reserved.new.self j ∙ (put (goal.at.returns-clause-others c).After-insert_reserved).others j m
    ∙ sym (views.identifier_is c.self.inside c.self.view_is j)

pub insert_reserved-requires-clause-some : goal.insert_reserved-requires-clause-some
insert_reserved-requires-clause-some c = grind arith

pub returns-clause-made : goal.returns-clause-made
returns-clause-made c =
    let g = begun (goal.at.returns-clause-made c).After-put_ids in
    let put = cursor_on c.put_ids.new.all.items c.in_ok-key.key in
    let cursor : cursor_on c.give_path.new.ids.items c.in_ok-key.key ≡ 2 = c.give_path.ensures.cursors c.in_ok-key.key ∙ ap (λ p. stepped p (take (length c.args.numbers.now - 1) (drop 1 c.args.numbers.now)) c.in_ok-key.key put) (c.path_up-2.ensures ∙ begins.path-same g) ∙ begins.cursor-same g put
    ∙ ap (λ o. option_map_or (λ t. t.cursor) o 0) c.put_ids.ensures.here ∙ c.in_ok-ids.ensures.cursor in
    views.namespace-at (cursor_on c.give_path.new.ids.items) c.add.new.self.nodes c.in_ok-key.key ∙ ap (option_map (namespace_of (cursor_on c.give_path.new.ids.items c.in_ok-key.key))) g.made
    ∙ ap (λ k. Some (namespace_of k (new_node c.args.id (c.in_ok-key.key ∷ way c.self.inside.tree.nodes c.args.parent)))) cursor
    ∙ ap (λ p. Some (namespace_of 2 (new_node c.args.id (c.in_ok-key.key ∷ p)))) (sym (views.path-of c.self.inside c.self.view_is c.args.parent))

pub insert_reserved-requires-clause-room : goal.insert_reserved-requires-clause-room
insert_reserved-requires-clause-room c = grind arith

pub returns-clause-namespaces : goal.returns-clause-namespaces
returns-clause-namespaces c s m =
    let g = begun (goal.at.returns-clause-namespaces c).After-put_ids in
    let nodes = c.self.inside.tree.nodes in
    let was = cursor_on c.self.inside.ids.items s in
    let old = path_at c.args.self.now c.args.parent in
    let numbers = drop 1 c.args.numbers.now in
    let path : c.path_up-2.result.now ≡ old = c.path_up-2.ensures ∙ begins.path-same g ∙ sym (views.path-of c.self.inside c.self.view_is c.args.parent) in
    let put = ap (λ o. option_map_or (λ t. t.cursor) o 0) (g.same s m) ∙ c.in_ok-prepare_path.ensures.cursors s in
    let cursor : cursor_on c.give_path.new.ids.items s ≡ stepped old numbers s was = c.give_path.ensures.cursors s ∙ ap (λ p. stepped p (take (length c.args.numbers.now - 1) (drop 1 c.args.numbers.now)) s (cursor_on c.put_ids.new.all.items s)) path
    ∙ ap (λ l. stepped old l s (cursor_on c.put_ids.new.all.items s)) (sym (ap (drop 1) (begins.all-is c.args.numbers.now _ c.requires.planned))) ∙ ap (stepped old numbers s) put in
    views.namespace-at (cursor_on c.give_path.new.ids.items) c.add.new.self.nodes s ∙ ap (option_map (namespace_of (cursor_on c.give_path.new.ids.items s))) (g.rest s m)
    ∙ ap (λ k. option_map (namespace_of k) (node_in nodes s)) cursor ∙ views.seen-moved old numbers s was (node_in nodes s)
    ∙ ap (option_map (moved old numbers s)) (sym (views.namespace_is c.self.inside c.self.view_is s))
