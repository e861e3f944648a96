use Rattle.std.proofs.Common.{ap, ◌∙◌, drop, arith}
use Rattle.kept_past.specs.Stored.{Stored}
use Rattle.kept_past.proofs.Lists.{entries-less, list-there, one-fewer, listed-less}
use Rattle.kept_past.proofs.ring.Ring.pop.Goals as goal

pub overflow_add-self : goal.overflow_add-self
overflow_add-self c = omega (arith, c.self.invariant.1.places_fit, list-there _ _ _ _ _ _ c.self.invariant.0 c.in-Some.ensures.items c.in-Many.is)

pub invariant_of-self-in-Many : goal.invariant_of-self-in-Many
invariant_of-self-in-Many c =
    let room = c.self.invariant.1 in
    let fewer = one-fewer c.pop_front-list.result _ _ (list-there _ _ _ _ _ _ c.self.invariant.0 c.in-Some.ensures.items c.in-Many.is) c.pop_front-list.ensures.cases in (
      listed-less _ _ _ _ _ _ _ c.self.invariant.0 c.in-Some.ensures.items c.in-Many.is fewer,
      record {
        lists_fit = omega (arith, room.lists_fit, fewer, c.pop_front-list.ensures.capacity);
        places_fit = omega (arith, room.places_fit, fewer);
      },
    )

pub returns-in-Many-clause-entries : goal.returns-in-Many-clause-entries
returns-in-Many-clause-entries c =
    entries-less c.self.inside.lists.items _ c.self.inside.dropped _ _ _ _ _ c.self.invariant.0 c.in-Some.ensures.items c.in-Many.is c.pop_front-list.ensures.rest
    ∙ ap (λ (t : Stored). drop 1 t.entries) c.self.view_is
