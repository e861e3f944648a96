-- A place without numbers is how vacancy shows; its key was not vacant, so there is room for it in the list of vacant keys
use Rattle.std.proofs.lemmas.Grind.{common_steps}
use Rattle.pid_numbers.proofs.Words.{◌≡◌, ◌∙◌, ◌<◌, ◌++◌, ◌∷◌, ℕ, List, [], length, map, get_or, None, Some, IsSome, arith, sym, ap, subst, option_map}
use Rattle.pid_numbers.proofs.Words.{vec_capacity, length-set, Ident, AreVacant, get, identifier_of, ident_at, shown}
use Rattle.pid_numbers.proofs.Filled as filled
use Rattle.pid_numbers.proofs.Seats as seats
use Rattle.pid_numbers.proofs.Vacancy as vacancy
use Rattle.pid_numbers.proofs.idents.Idents.remove.Goals as goal

-- it is there
found : (places : List Ident) (key : ℕ) (y : Ident) → IsSome (option_map identifier_of (get_or (map shown places) key None)) → y ≡ get_or places key y
    → (key < length places) × ((0 < length y.numbers) × (get_or (map shown places) key None ≡ Some y))
found places key y some is = let x = seats.some-named (get_or (map shown places) key None) some in filled.there seats.numbers_of (λ x. x) places key x.0 y x.1 is

pub push_reserved-requires : goal.push_reserved-requires
push_reserved-requires c =
    let places = c.self.inside.places.items in
    let f = found places c.args.key c.index_mut.result.now (subst (λ t. IsSome (ident_at t c.args.key)) (sym c.self.view_is) c.requires) c.index_mut.ensures.value in
    let more = vacancy.room-more (map shown places) c.self.inside.vacant.items (vec_capacity c.self.inside.vacant) c.args.key c.index_mut.result.now c.self.invariant.vacancies f.1.1 in
    omega (arith, more, c.self.inside.vacant.ok.0)

pub invariant_of-self : goal.invariant_of-self
invariant_of-self c =
    let places = c.self.inside.places.items in
    let key = c.args.key in
    let w = c.replace-gone.new.dest in
    let f = found places key c.index_mut.result.now (subst (λ t. IsSome (ident_at t key)) (sym c.self.view_is) c.requires) c.index_mut.ensures.value in
    let none : shown w ≡ None = filled.show-none seats.numbers_of (λ x. x) w (ap (λ x. length x.numbers) c.replace-gone.ensures.after ∙ ap length c.nobody.ensures) in
    let v = vacancy.one-more (map shown places) c.self.inside.vacant.items (vec_capacity c.self.inside.vacant) key c.index_mut.result.now c.self.invariant.vacancies f.1.1 in
    let u = subst (λ l. AreVacant l (c.self.inside.vacant.items ++ key ∷ []) (vec_capacity c.self.inside.vacant)) (sym (filled.slots-set seats.numbers_of (λ x. x) places key w None none)) v in
    record {
      vacancies = rw (← c.push_reserved.ensures.items, ← c.push_reserved.ensures.capacity) at u;
      few = let n = length-set places key w in let few = c.self.invariant.few in omega (arith, n, few);
    }

pub returns-clause-updates : goal.returns-clause-updates
returns-clause-updates c =
    let places = c.self.inside.places.items in
    let key = c.args.key in
    let w = c.replace-gone.new.dest in
    let f = found places key c.index_mut.result.now (subst (λ t. IsSome (ident_at t key)) (sym c.self.view_is) c.requires) c.index_mut.ensures.value in
    let none : shown w ≡ None = filled.show-none seats.numbers_of (λ x. x) w (ap (λ x. length x.numbers) c.replace-gone.ensures.after ∙ ap length c.nobody.ensures) in
    record {
      changed = filled.slot-set_same seats.numbers_of (λ x. x) places key w f.0 ∙ none;
      others = λ j differs. filled.slot-set_other seats.numbers_of (λ x. x) places key j w differs ∙ ap (λ t. get t j) c.self.view_is;
    }

pub returns-clause-value : goal.returns-clause-value
returns-clause-value c = grind (arith, common_steps)
