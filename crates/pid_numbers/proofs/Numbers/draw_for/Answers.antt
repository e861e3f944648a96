-- All memory is taken first, and taking it moves no plan: so the numbers planned are free still when the path is written
use Rattle.std.proofs.lemmas.Grind.{common_steps}
use Rattle.pid_numbers.proofs.Words.{rules, ◌≡◌, ◌∙◌, sym, ap, subst, refl, arith, ℕ, ◌<◌, ◌==◌, List, length, get_or, None, option_map, Identifier, node_in, way, IsDistinct, path_at}
use Rattle.pid_numbers.proofs.Words.{moved, new_identifier, namespace_of, cursor_on, entry_on, bound_on, touched, stepped, given_to, ArePlanned, ident_at}
use Rattle.std.proofs.Common.{not}
use Rattle.pid_numbers.proofs.Views.{IsPlan}
use Rattle.pid_numbers.proofs.Views as views
use Rattle.pid_numbers.proofs.Seats as seats
use Rattle.pid_numbers.proofs.Ties as ties
use Rattle.pid_numbers.proofs.Sweeps as sweeps
use Rattle.pid_numbers.proofs.Numbers.draw_for.Goals as goal
use Rattle.pid_numbers.proofs.Numbers.draw_for.Goals.{After-insert_reserved, After-self}

-- a new identifier that so many tasks use
abbrev counted : ℕ → ℕ → List ℕ → Identifier
counted tasks space numbers = record (new_identifier space numbers) { tasks = tasks }

-- what the plan says
plan : (c : After-self) → IsPlan c.self.inside.pid_max c.self.inside.tree.nodes c.self.inside.ids.items c.args.space c.args.numbers.now
plan c = views.plan-of c.self.inside c.self.view_is c.self.invariant c.args.space c.args.numbers.now c.requires.all c.requires.planned

-- and the identifier that is put
put : (c : After-insert_reserved) → seats.IsPut c.self.inside.idents c.insert_reserved.new.self c.in_ok-key.key (counted c.args.tasks c.args.space c.args.numbers.now)
put c = seats.put c.self.inside.idents c.make_room.new.self c.insert_reserved.new.self c.in_ok-key.key c.insert_reserved.result _ _ (ap (counted c.args.tasks c.args.space) c.in_ok-stored.ensures) c.in_ok-key.ensures.vacant c.in_ok-key.ensures.same (c.in_ok-key.ensures.key ∙ sym c.insert_reserved.ensures.key) c.insert_reserved.ensures.updates

pub from-requires : goal.from-requires
from-requires c = let few = c.self.invariant.whole.numbering.tree.few c.args.space in let len = (plan (goal.at.from-requires c).After-self).len in omega (arith, few, len)

pub insert_reserved-requires-clause-some : goal.insert_reserved-requires-clause-some
insert_reserved-requires-clause-some c =
    let some = c.self.invariant.some c.args.space (views.there c.self.inside c.self.view_is c.args.space c.requires.there) in
    let len = (plan (goal.at.insert_reserved-requires-clause-some c).After-self).len in
    let l = ap length c.in_ok-stored.ensures in
    omega (arith, some, len, l)

pub prepare_path-requires : goal.prepare_path-requires
prepare_path-requires c =
    let p = plan (goal.at.prepare_path-requires c).After-self in
    record {
      planned = subst (λ p. ArePlanned c.self.inside.ids.items p c.args.numbers.now) (sym c.path_up-path.ensures) p.drawn;
      len = p.len ∙ ap length (sym c.path_up-path.ensures);
    }

pub give_path-requires : goal.give_path-requires
give_path-requires c =
    let p = plan (goal.at.give_path-requires c).After-self in
    record {
      distinct = subst IsDistinct (sym c.path_up-path.ensures) p.distinct;
      planned = λ k below. c.in_ok-prepare_path.ensures.plan (get_or c.path_up-path.result.now k 0) ∙ subst (λ p. ArePlanned c.self.inside.ids.items p c.args.numbers.now) (sym c.path_up-path.ensures) p.drawn k below;
      ready = search rules;
      len = p.len ∙ ap length (sym c.path_up-path.ensures);
    }

pub invariant_of-self-in_err-prepare_path : goal.invariant_of-self-in_err-prepare_path
invariant_of-self-in_err-prepare_path c = grind arith

pub invariant_of-self-2 : goal.invariant_of-self-2
invariant_of-self-2 c =
    let ids = c.self.inside.ids.items in
    let new = c.give_path.new.ids.items in
    let path = way c.self.inside.tree.nodes c.args.space in
    let numbers = c.args.numbers.now in
    let key = c.in_ok-key.key in
    let prep = c.in_ok-prepare_path.ensures in
    let p = plan (goal.at.invariant_of-self-2 c).After-self in
    let x = put (goal.at.invariant_of-self-2 c).After-insert_reserved in
    let is : (s n : ℕ) → entry_on new s n ≡ touched path numbers (λ _. given_to (not (c.args.tasks == 0)) key) (entry_on ids) s n =
    λ s n. c.give_path.ensures.entries s n
    ∙ ap (λ p. touched p numbers (λ _. given_to (not (c.args.tasks == 0)) key) (entry_on c.prepare_path.new.ids.items) s n) c.path_up-path.ensures
    ∙ ap (λ f. touched path numbers (λ _. given_to (not (c.args.tasks == 0)) key) f s n) (λ i s n. prep.entries s n i) in
    sweeps.kept-with c.self.inside.pid_max c.self.inside.tree ids new c.self.inside.idents c.insert_reserved.new.self c.self.invariant (c.give_path.ensures.count ∙ prep.count)
    (ties.numbering-given c.self.inside.pid_max (way c.self.inside.tree.nodes) (entry_on ids) (entry_on new) (bound_on ids) (bound_on new) (ident_at c.self.inside.idents) (ident_at c.insert_reserved.new.self) c.self.invariant.whole.numbering (λ s. c.give_path.ensures.bound s ∙ prep.bound s)
    key (counted c.args.tasks c.args.space numbers) x.others (not (c.args.tasks == 0)) x.was x.now p.len
    (omega (arith, p.len, c.self.invariant.some c.args.space (views.there c.self.inside c.self.view_is c.args.space c.requires.there))) refl
    (λ s n hit.
    let r = ties.beside-some s n path numbers hit in
    subst (λ n. (entry_on ids s n ≡ None) × (0 < n) × (n < c.self.inside.pid_max)) r.3 (subst (λ s. (entry_on ids s (get_or numbers r.0 0) ≡ None) × (0 < get_or numbers r.0 0) × (get_or numbers r.0 0 < c.self.inside.pid_max)) r.2 (p.free r.0 r.1))) is)
    (ties.leads-given (not (c.args.tasks == 0)) path numbers key (entry_on ids) (entry_on new) is)

pub returns-clause-others : goal.returns-clause-others
returns-clause-others c j m =
    views.name_is c.self.inside.pid_max c.self.inside.tree c.give_path.new.ids.items c.insert_reserved.new.self j ∙ (put (goal.at.returns-clause-others c).After-insert_reserved).others j m
    ∙ sym (views.identifier_is c.self.inside c.self.view_is j)

pub invariant_of-self-in_err-stored : goal.invariant_of-self-in_err-stored
invariant_of-self-in_err-stored c = grind arith

pub returns-clause-fresh : goal.returns-clause-fresh
returns-clause-fresh c = grind (arith, common_steps)

pub returns-clause-pid_max : goal.returns-clause-pid_max
returns-clause-pid_max c = grind arith

pub invariant_of-self : goal.invariant_of-self
invariant_of-self c = grind arith

pub returns-clause-named : goal.returns-clause-named
returns-clause-named c = grind (arith, common_steps)

pub returns-clause-namespaces : goal.returns-clause-namespaces
returns-clause-namespaces c s =
    let o = node_in c.self.inside.tree.nodes s in
    let numbers = c.args.numbers.now in
    let path : c.path_up-path.result.now ≡ path_at c.args.self.now c.args.space =
    c.path_up-path.ensures ∙ sym (views.path-of c.self.inside c.self.view_is c.args.space) in
    views.namespace-at (cursor_on c.give_path.new.ids.items) c.self.inside.tree.nodes s
    ∙ ap (λ k. option_map (namespace_of k) o) (c.give_path.ensures.cursors s ∙ ap (stepped c.path_up-path.result.now numbers s) (c.in_ok-prepare_path.ensures.cursors s) ∙ ap (λ p. stepped p numbers s (cursor_on c.self.inside.ids.items s)) path)
    ∙ views.seen-moved (path_at c.args.self.now c.args.space) numbers s (cursor_on c.self.inside.ids.items s) o
    ∙ ap (option_map (moved (path_at c.args.self.now c.args.space) numbers s)) (sym (views.namespace_is c.self.inside c.self.view_is s))
