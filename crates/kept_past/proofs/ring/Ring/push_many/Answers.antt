use Rattle.std.proofs.Common.{◌+◌, ◌++◌, [], ◌∷◌, take, refl, sym, ap, ◌∙◌, subst, arith}
use Rattle.pid_types.specs.declared.entry.Entry.{Entry}
use Rattle.pid_types.specs.Short.{list_reply}
use Rattle.kept_past.specs.Stored.{ListsAreInOrder, Lists, Stored, entries_in}
use Rattle.kept_past.proofs.Lists.{listed-both, with-list}
use Rattle.kept_past.proofs.ring.Ring.push_many.Goals as goal

pub invariant_of-self : goal.invariant_of-self
invariant_of-self c =
    let room = c.self.invariant.1 in
    let some = ap (λ (t : Stored). t.room) c.self.view_is in (
      listed-both _ _ _ _ _ _ _ c.self.invariant.0 c.push_back_reserved-2.ensures.items refl (ap (λ n. c.self.inside.dropped + n) c.len.ensures) c.push_back_reserved.ensures.len,
      record {
        lists_fit = omega (arith, room.lists_fit, some, c.requires, c.push_back_reserved.ensures.len, c.push_back_reserved.ensures.capacity);
        places_fit = omega (arith, room.places_fit, some, c.requires, c.push_back_reserved.ensures.len);
      },
    )

pub returns-clause-entries : goal.returns-clause-entries
returns-clause-entries c =
    let slots = c.self.inside.slots.items in
    let room = c.args.room.now in
    let entry : Entry = record { worker = c.args.worker; call = c.args.call; reply = list_reply (take c.args.count room) } in
    ap (λ (ls : Lists). entries_in ls c.self.inside.dropped c.push_back_reserved-2.new.self.items) c.push_back_reserved.ensures.items
    ∙ (ap (entries_in (c.self.inside.lists.items ++ room ∷ []) c.self.inside.dropped) c.push_back_reserved-2.ensures.items
    ∙ (with-list c.self.inside.lists.items room c.self.inside.dropped (c.self.inside.dropped + c.len.result) slots _
    (subst (λ n. ListsAreInOrder c.self.inside.dropped (c.self.inside.dropped + n) slots) (sym c.len.ensures) c.self.invariant.0)
    (ap (λ n. c.self.inside.dropped + n) (c.len.ensures ∙ c.self.inside.lists.ok.0)) refl
    ∙ ap (λ (t : Stored). t.entries ++ entry ∷ []) c.self.view_is))
