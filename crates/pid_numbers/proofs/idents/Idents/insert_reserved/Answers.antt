use Rattle.std.proofs.lemmas.Grind.{common_steps}
use Rattle.pid_numbers.proofs.Words.{◌∙◌, ◌<◌, length, map, set, Some, arith, sym, ap, subst, vec_capacity, length-map, length-set, AreVacant, get, shown}
use Rattle.pid_numbers.proofs.Filled as filled
use Rattle.pid_numbers.proofs.Seats as seats
use Rattle.pid_numbers.proofs.Vacancy as vacancy
use Rattle.pid_numbers.proofs.idents.Idents.insert_reserved.Goals as goal

pub invariant_of-self : goal.invariant_of-self
invariant_of-self c =
    let places = c.self.inside.places.items in
    let key = c.in-Some.key in
    let x = c.args.ident in
    let rest = c.pop.new.self.items in
    let v = vacancy.one-less (map shown places) c.self.inside.vacant.items rest (vec_capacity c.self.inside.vacant) key c.self.invariant.vacancies c.in-Some.ensures.items x in
    let u = subst (λ l. AreVacant l rest (vec_capacity c.self.inside.vacant)) (sym (filled.slots-set seats.numbers_of (λ x. x) places key x (Some x) (filled.show-some seats.numbers_of (λ x. x) x c.requires.some))) v in
    record {
      vacancies = subst (AreVacant (map shown (set places key x)) rest) (sym c.pop.ensures.capacity) u;
      few = let n = length-set places key x in let few = c.self.invariant.few in omega (arith, n, few);
    }

pub returns-in-Some-clause-updates : goal.returns-in-Some-clause-updates
returns-in-Some-clause-updates c =
    let places = c.self.inside.places.items in
    let key = c.in-Some.key in
    let x = c.args.ident in
    let last = vacancy.vacant-last (map shown places) c.self.inside.vacant.items c.pop.new.self.items (vec_capacity c.self.inside.vacant) key c.self.invariant.vacancies c.in-Some.ensures.items in
    let lt : key < length places = let below = last.0 in let n = length-map places shown in omega (arith, below, n) in
    record {
      changed = filled.slot-set_same seats.numbers_of (λ x. x) places key x lt ∙ filled.show-some seats.numbers_of (λ x. x) x c.requires.some;
      others = λ j differs. filled.slot-set_other seats.numbers_of (λ x. x) places key j x differs ∙ ap (λ t. get t j) c.self.view_is;
    }

pub returns-in-None-clause-updates : goal.returns-in-None-clause-updates
returns-in-None-clause-updates c = grind (arith, common_steps)

pub invariant_of-self-in-None : goal.invariant_of-self-in-None
invariant_of-self-in-None c = grind (arith, common_steps)
