use Rattle.std.proofs.Common.{arith}
use Rattle.std.proofs.lemmas.Grind.{common_steps}
use Rattle.pid_numbers.proofs.Words.{◌≡◌, ◌∙◌, ◌<◌, length, map, get_or, None, Some, sym, ap, option_map, vec_capacity, less, is_used_as, identifier_of}
use Rattle.pid_numbers.proofs.Words.{ident_at, shown}
use Rattle.pid_numbers.proofs.Filled as filled
use Rattle.pid_numbers.proofs.Seats as seats
use Rattle.pid_numbers.proofs.Views as views
use Rattle.pid_numbers.proofs.idents.Idents.less_use.Goals as goal

-- it is there
found : (c : goal.After-self-1) → (c.args.key < length c.self.inside.places.items) × ((0 < length c.index_mut.result.now.numbers) × (get_or (map shown c.self.inside.places.items) c.args.key None ≡ Some c.index_mut.result.now))
found c =
    let places = c.self.inside.places.items in
    let v = views.used c.args.kind (option_map identifier_of (get_or (map shown places) c.args.key None)) (ap (λ t. is_used_as c.args.kind (ident_at t c.args.key)) c.self.view_is ∙ c.requires) in
    let x = seats.named (get_or (map shown places) c.args.key None) v.0 v.1 in
    filled.there seats.numbers_of (λ x. x) places c.args.key x.0 c.index_mut.result.now x.1 c.index_mut.ensures.value

pub invariant_of-self : goal.invariant_of-self
invariant_of-self c =
    let f = found c in
    seats.still-table c.self.inside.places.items c.args.key c.index_mut.result.now c.lessen.new.x f.0 f.1.0 f.1.1 c.lessen.ensures.numbers c.self.inside.vacant.items (vec_capacity c.self.inside.vacant) c.self.invariant

pub returns-clause-here : goal.returns-clause-here
returns-clause-here c u is =
    let f = found c in
    let was : Some (identifier_of c.index_mut.result.now) ≡ Some u = sym (ap (option_map identifier_of) f.1.1) ∙ ap (λ t. ident_at t c.args.key) c.self.view_is ∙ is in
    let same : identifier_of c.index_mut.result.now ≡ u = cc in
    ap (option_map identifier_of) (seats.rewritten c.self.inside.places.items c.args.key c.index_mut.result.now c.lessen.new.x f.0 f.1.0 f.1.1 c.lessen.ensures.numbers)
    ∙ ap Some c.lessen.ensures.uses ∙ ap (λ w. Some (less c.args.kind w)) same

pub returns-clause-others : goal.returns-clause-others
returns-clause-others c j differs =
    let f = found c in
    ap (option_map identifier_of) (seats.others c.self.inside.places.items c.args.key c.index_mut.result.now c.lessen.new.x f.0 f.1.0 f.1.1 c.lessen.ensures.numbers j differs)
    ∙ ap (λ t. ident_at t j) c.self.view_is

pub lessen-requires : goal.lessen-requires
lessen-requires c = grind (arith, common_steps)
